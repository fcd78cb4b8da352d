-- Every list of calls on a design that was opened keeps its promises.
use Rattle.std.proofs.Common.{◌≡◌, ℕ, ◌^◌, ◌<◌, Bool, true, ◌↔◌, List, [], length, take, drop, sym, refl, ap, ◌∙◌, subst, inl, inr, arith}
use Rattle.std.proofs.lemmas.List.{take_at}
use Rattle.std.proofs.lemmas.Bool.{cases_Bool, true≢false}
use Rattle.functions.specs.Functions.{Arity, value}
use Rattle.functions.specs.Classes.{columns, classes}
use Rattle.functions.specs.Decompositions.{Decomposes}
use Rattle.charts.specs.declared.chart.Chart as chart
use Rattle.charts.specs.Walks.{chart_function}
use Rattle.charts.proofs.Meanings.{column_arity}
use Rattle.rules.specs.declared.rule.CodeRule as rule
use Rattle.families.specs.declared.family.CellFamily as family
use Rattle.families.specs.Laws.{meant}
use Rattle.intake.specs.Networks.{WellFormed, input_bits, network_pin}
use Rattle.intake.specs.Page.{intake}
use Rattle.intake.proofs.Pages.{intake_laws}
use Rattle.mapping.specs.declared.call.Call.TheVariants.{Split, Write}
use Rattle.mapping.specs.declared.answer.Answer.{Answer}
use Rattle.mapping.specs.declared.answer.Answer.TheVariants.{Shows, Wrote, Refused}
use Rattle.mapping.specs.declared.refusal.Refusal.TheVariants.{TooManyClasses}
use Rattle.mapping.specs.Answers.{Ordered, checks, good, page_bytes}
use Rattle.mapping.specs.Histories.{Told, events, reference}
use Rattle.mapping.specs.Judged.{Judged}
use Rattle.mapping.specs.Kept.{Reaches, network_of}
use Rattle.mapping.proofs.Law.{every_run_judged, every_network_keeps}
use Rattle.design.specs.declared.design.Design.{Design}
use Rattle.design.specs.Designs.{seen, network_seen, page_of, Counts, SplitCall, WriteCall}
use Rattle.design.specs.Runs.{Promise}
use Rattle.design.proofs.Reached.{Stays}

module _ {C P R F : Type 0} (ch : chart.Ghosts C P) (ru : rule.Ghosts R) (fa : family.Ghosts F) where
  -- the function that a chart means has the chart's arguments
  arity-means : (c : C) → Arity (ch.arity c) (chart_function ch c)
  arity-means c = column_arity ch.arity ch.column ch.next ch.laws (ch.arity c) c 0 (ch.root c) (omega arith)

  -- a write that was done: the design is closed, and the buffer's front is its page
  module _ (d : Design C R F P) (before after : List ℕ) (k : ℕ) (call : WriteCall ch ru fa d before after (Wrote k)) where
    done-says : Ordered (checks (ru.code d.rule) (fa.pins d.family) (fa.size d.family) (ch.fits d.chart.below) (seen ch ru fa d) (Write (length before))) (Wrote (page_bytes (fa.pins d.family) (fa.size d.family) (length (seen ch ru fa d).cells))) (Wrote k) →
        (d.netlist.closed ≡ true) × (k ≡ length (page_of ch ru fa d))
    done-says (inl x) = absurd (let e = x.1 in let z : ◌≡◌ {A = ℕ} 0 1 = cc in omega arith)
    done-says (inr (o, inl x)) = absurd (let e = x.1 in let z : ◌≡◌ {A = ℕ} 0 1 = cc in omega arith)
    done-says (inr (o, inr x)) = (
      elim (cases_Bool d.netlist.closed) [ inl e ↦ e | inr e ↦ absurd (o e) ],
      let e = x.1 in let h : k ≡ page_bytes (fa.pins d.family) (fa.size d.family) (length (seen ch ru fa d).cells) = cc in h ∙ call.sized,
    )

    wrote : (d.netlist.closed ≡ true) × (k ≡ length (page_of ch ru fa d))
    wrote = done-says call.step.answers.says

    pub wrote_page : take k after ≡ page_of ch ru fa d
    wrote_page = ap (take k) call.buffer ∙ take_at (page_of ch ru fa d) (drop (length (page_of ch ru fa d)) before) k (sym wrote.1)

    pub wrote_closed : d.netlist.closed ≡ true
    wrote_closed = wrote.0

  -- a split that counts its classes is refused for their number exactly where they are too many
  module _ (d : Design C R F P) (b j : ℕ) (before after : List P) (a : Answer) (e : Design C R F P) (counts : Counts ch ru fa d b j (length before)) (call : SplitCall ch ru fa d b j before after a e) where
    abbrev many : Type 0
    many = 2 ^ j < length (classes (columns b (seen ch ru fa d).left))

    pub refused-many : (k : ℕ) → a ≡ Refused (TooManyClasses k) → many
    refused-many k is = told call.step.answers.says
      where
        told : Ordered (checks (ru.code d.rule) (fa.pins d.family) (fa.size d.family) (ch.fits d.chart.below) (seen ch ru fa d) (Split b j (length before))) (good (ru.code d.rule) (fa.pins d.family) (fa.size d.family) (ch.fits d.chart.below) (seen ch ru fa d) (Split b j (length before))) a → many
        told (inl x) = absurd (let e = x.1 in let z : ◌≡◌ {A = ℕ} 0 1 = cc in omega arith)
        told (inr (o, inl x)) = absurd (let e = x.1 in let z : ◌≡◌ {A = ℕ} 0 1 = cc in omega arith)
        told (inr (o, inr (p, inl x))) = absurd (let e = x.1 in let z : ◌≡◌ {A = ℕ} 0 1 = cc in omega arith)
        told (inr (o, inr (p, inr (q, inl x)))) = x.0
        told (inr (o, inr (p, inr (q, inr (r, inl x))))) = absurd (let e = x.1 in let z : ◌≡◌ {A = ℕ} 0 1 = cc in omega arith)
        told (inr (o, inr (p, inr (q, inr (r, inr (s, inl x)))))) = absurd (let e = x.1 in let z : ◌≡◌ {A = ℕ} 0 1 = cc in omega arith)
        told (inr (o, inr (p, inr (q, inr (r, inr (s, inr x)))))) = absurd (let e = x.1 in let z : ◌≡◌ {A = ℕ} 0 1 = cc in omega arith)

    pub many-refused : many → (k : ℕ) × (a ≡ Refused (TooManyClasses k))
    many-refused h = told call.step.answers.says
      where
        told : Ordered (checks (ru.code d.rule) (fa.pins d.family) (fa.size d.family) (ch.fits d.chart.below) (seen ch ru fa d) (Split b j (length before))) (good (ru.code d.rule) (fa.pins d.family) (fa.size d.family) (ch.fits d.chart.below) (seen ch ru fa d) (Split b j (length before))) a → (k : ℕ) × (a ≡ Refused (TooManyClasses k))
        told (inl x) = absurd (true≢false (sym x.0 ∙ counts.still_open))
        told (inr (o, inl x)) = absurd (x.0 counts.ranged)
        told (inr (o, inr (p, inl x))) = absurd (let l = x.0 in let m = counts.long in omega arith)
        told (inr (o, inr (p, inr (q, inl x)))) = (length (classes (columns b (seen ch ru fa d).left)), x.1)
        told (inr (o, inr (p, inr (q, inr (r, rest))))) = absurd (r h)

  pub judged : (c : C) (r : R) (f : F) (ts : List Told) (d : Design C R F P) → Reaches (ru.code r) (fa.pins f) (fa.size f) (ch.fits c) (ch.arity c) (chart_function ch c) ts (seen ch ru fa d) →
      Judged (ru.code r) (fa.pins f) (fa.size f) (ch.fits c) (ch.arity c) (chart_function ch c) [] ts
  judged c r f ts d reach =
      (every_run_judged ru.code ru.laws r (fa.pins f) (fa.size f) (ch.fits c) (ch.arity c) (chart_function ch c) ts (seen ch ru fa d) (fa.laws.few_pins f) (ch.laws.small c) (arity-means c) reach).0

  pub promised : (c : C) (r : R) (f : F) (ts : List Told) (d : Design C R F P) → Stays ch ru fa r f (ch.arity c) (ch.fits c) d →
      Reaches (ru.code r) (fa.pins f) (fa.size f) (ch.fits c) (ch.arity c) (chart_function ch c) ts (seen ch ru fa d) → Promise ch ru fa (ch.arity c) (chart_function ch c) (events ts) d
  promised c r f ts d stays reach =
      let n = ch.arity c in
      let g = chart_function ch c in
      let s = seen ch ru fa d in
      let narrow = ch.laws.small c in
      let keeps = (every_run_judged ru.code ru.laws r (fa.pins f) (fa.size f) (ch.fits c) n g ts s (fa.laws.few_pins f) narrow (arity-means c) reach).1 in
      let N : F → ℕ → Type 0 = λ x k.
      WellFormed (fa.pins x) (fa.size x) (network_of (fa.pins x) (fa.packed x) k (seen ch ru fa d))
      × ((vs : List Bool) → length vs ≡ 16 → network_pin (meant (fa.size x) (fa.pins x) (fa.reads x)) (network_of (fa.pins x) (fa.packed x) k (seen ch ru fa d)) vs ≡ value (chart_function ch c) (take (ch.arity c) vs)) in
      let networked : d.netlist.closed ≡ true → N d.family d.inputs = λ shut.
      let w = every_network_keeps ru.code ru.laws r fa.laws f (ch.fits c) n g ts s narrow (arity-means c) reach shut in
      subst (λ x. N x d.inputs) (sym stays.family) (subst (N f) (sym stays.inputs) (w.formed, w.pins)) in
      let laws = intake_laws (fa.number d.family) (fa.pins d.family) (fa.size d.family) (fa.laws.numbered d.family) (fa.laws.few_pins d.family) (fa.laws.few_bytes d.family) in
      record {
        pins = keeps.pins;
        shows = λ x a call. call.answers.says ∙ ap Shows (keeps.pins (input_bits x) refl);
        taken_back = λ before after k call.
            ap (intake (fa.number d.family) (fa.pins d.family) (fa.size d.family)) (wrote_page d before after k call)
            ∙ laws.written_taken (network_seen ch ru fa d) (networked (wrote_closed d before after k call)).0;
        network_pins = λ before after k call. (networked (wrote_closed d before after k call)).1;
        network_inputs = stays.inputs;
        decomposes = λ b j before after a e counts call.
            let iff = keeps.classed b j counts.ranged.bound in
            let Q : (ℕ → ℕ → ℕ) → Type 0 = λ code. ((k : ℕ) × (a ≡ Refused (TooManyClasses k))) ↔ (Decomposes (length (seen ch ru fa d).live) b j (reference code (chart_function ch c) (events ts)) → ⊥) in
            subst Q (sym (ap ru.code stays.rule))
            (λ x. iff.0 (refused-many d b j before after a e counts call x.0 x.1), λ x. many-refused d b j before after a e counts call (iff.1 x));
      }
