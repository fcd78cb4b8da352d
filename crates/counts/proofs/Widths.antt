-- Class counts by width, and their lines one after another.
use Rattle.std.proofs.Common.{◌≡◌, ℕ, suc, ◌+◌, ◌-◌, ◌≤◌, min, List, ◌++◌, length, Some, None, Option, refl, ap, ◌∙◌, append_assoc, arith, pow_mono}
use Rattle.functions.specs.Functions.{Fn}
use Rattle.charts.specs.declared.Chart as chart
use Rattle.charts.specs.Numbering.{Numbers}
use Rattle.charts.specs.Walks.{chart_function}
use Rattle.counts.specs.Counts.{class_count, Counted, inputs_text, width_text, widths_text}

-- what a numbering in a strip of 32 places says of the class count
pub counted : {C P : Type 0} (ch : chart.Ghosts C P) (c : C) (b : ℕ) (before after : List P) (r : Option ℕ) → length before ≡ 32 → b ≤ 5 → Numbers ch c b before after r → Counted (ch.arity c) (chart_function ch c) b r
counted ch c b before after (Some n) room small h = (h.0.bound, small, h.1.count)
counted ch c b before after None room small h = λ bound _. h.1 (record { bound = bound; room = omega (arith, room, pow_mono small) })

-- a width more, where there is one
module _ (m w : ℕ) (f : Fn) (said : List ℕ) (some : 1 ≤ w) (so_far : said ≡ inputs_text m ++ widths_text (min (w - 1) m) f) where
  pub width-more : (o : Option ℕ) (n : ℕ) (line now-said : List ℕ) → o ≡ Some n → Counted m f w o → line ≡ width_text w n → now-said ≡ said ++ line → now-said ≡ inputs_text m ++ widths_text (min (w + 1 - 1) m) f
  width-more o n line now-said is counts line-is now-is =
      let h : Counted m f w (Some n) = rw is at counts in
      let within : w ≤ m = h.0 in
      let a : suc (w - 1) ≡ min (w + 1 - 1) m = omega arith in
      let b : min (w - 1) m ≡ w - 1 = omega arith in
      let s : w ≡ suc (w - 1) = omega arith in
      now-is
      ∙ (λ t. so_far t ++ line-is t)
      ∙ append_assoc (inputs_text m) (widths_text (min (w - 1) m) f) (width_text w n)
      ∙ ap (λ (k : ℕ). inputs_text m ++ (widths_text (min (w - 1) m) f ++ width_text w k)) h.2
      ∙ (λ t. inputs_text m ++ (widths_text (b t) f ++ width_text (s t) (class_count (s t) f)))
      ∙ ap (λ (k : ℕ). inputs_text m ++ widths_text k f) a

  pub width-none : (o : Option ℕ) (now-said : List ℕ) → ((n : ℕ) → o ≡ Some n → ⊥) → Counted m f w o → w ≤ 5 → now-said ≡ said → now-said ≡ inputs_text m ++ widths_text (min (w + 1 - 1) m) f
  width-none None now-said none counts few now-is =
      let past : w ≤ m → ⊥ = λ within. counts within few in
      let a : min (w - 1) m ≡ min (w + 1 - 1) m = omega (arith, past) in
      now-is ∙ so_far ∙ ap (λ (k : ℕ). inputs_text m ++ widths_text k f) a
  width-none (Some n) now-said none counts few now-is = absurd (none n refl)
