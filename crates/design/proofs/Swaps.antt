-- What a swap of the chart makes of a design.
use Rattle.std.proofs.Common.{◌≡◌, ℕ, zero, suc, ◌+◌, ◌<◌, ◌≤◌, false, ◌↔◌, List, [], ◌∷◌, length, get_or, take, set, sym, refl, ap, ◌∙◌, subst, inr, add-one, arith}
use Rattle.std.specs.List.{swap}
use Rattle.std.proofs.lemmas.List.{length-take-le}
use Rattle.std.proofs.lemmas.List.Edits.{swap_is}
use Rattle.std.proofs.lemmas.Bool.{true≢false}
use Rattle.functions.specs.Functions.{Fn, negated, exchanged}
use Rattle.functions.specs.Words.{swapped}
use Rattle.functions.proofs.Negation.{negated_twice}
use Rattle.charts.specs.declared.chart.Chart as chart
use Rattle.charts.specs.declared.inverting.Inverting.{Inverting}
use Rattle.charts.specs.Changes.{whole, Became}
use Rattle.rules.specs.declared.rule.CodeRule as rule
use Rattle.families.specs.declared.family.CellFamily as family
use Rattle.mapping.specs.declared.call.Call.TheVariants.{Swap}
use Rattle.mapping.specs.declared.answer.Answer.TheVariants.{Done}
use Rattle.mapping.specs.States.{state}
use Rattle.design.specs.declared.design.Design.{Design}
use Rattle.design.specs.Cells.{cells_of}
use Rattle.design.specs.Designs.{inverted, left_of, Step}

-- two elements written crosswise
crosswise : (p m : ℕ) (xs : List ℕ) → suc p < m → m ≤ length xs → take m (set (set xs p (get_or xs (suc p) 0)) (suc p) (get_or xs p 0)) ≡ swapped p (take m xs)
crosswise p zero xs h l = absurd (omega arith)
crosswise p (suc m) [] h l = absurd (omega arith)
crosswise zero (suc zero) (x ∷ xs) h l = absurd (omega arith)
crosswise zero (suc (suc m)) (x ∷ []) h l = absurd (omega arith)
crosswise zero (suc (suc m)) (x ∷ y ∷ xs) h l = refl
crosswise (suc p) (suc m) (x ∷ xs) h l = ap (λ ys. x ∷ ys) (crosswise p m xs (omega arith) (omega arith))

pub crossed : (p m : ℕ) (xs : List ℕ) → p + 1 < m → m ≤ length xs → take m (set (set xs p (get_or xs (p + 1) 0)) (p + 1) (get_or xs p 0)) ≡ swapped p (take m xs)
crossed p m xs h l = ap (λ q. take m (set (set xs p (get_or xs q 0)) q (get_or xs p 0))) (add-one p) ∙ crosswise p m xs (omega arith) l

module _ {C P : Type 0} (ch : chart.Ghosts C P) where
  -- what fits the charts below follows from what fits the inverting charts
  pub fits_below : (x y : Inverting C P) → ((g : Fn) → ch.fits x.below (negated g) ↔ ch.fits y.below (negated g)) → (g : Fn) → ch.fits x.below g ↔ ch.fits y.below g
  fits_below x y h g =
      let Q : Fn → Type 0 = λ k. ch.fits x.below k ↔ ch.fits y.below k in
      subst Q (negated_twice g) (h (negated g))

module _ {C P R F : Type 0} (ch : chart.Ghosts C P) (ru : rule.Ghosts R) (fa : family.Ghosts F) (d : Design C R F P) (p : ℕ) (long : length d.live ≡ 16) (still : d.netlist.closed ≡ false) where
  abbrev m : ℕ
  m = ch.arity d.chart.below

  wide : length (take m d.live) ≡ m
  wide = let n = ch.laws.small d.chart.below in length-take-le m d.live (omega arith)

  pub swap_done : (x : Inverting C P) (live : List ℕ) → live ≡ swap d.live p (p + 1) → p + 1 < m → Became (inverted ch).arity (whole (inverted ch).column (inverted ch).root) (inverted ch).fits m (exchanged p (left_of ch ru fa d)) d.chart x →
      Step ch ru fa d (Swap p) Done (record { chart = x; rule = d.rule; family = d.family; inputs = d.inputs; live = live; netlist = d.netlist })
  swap_done x live is fit became = record {
    answers = record {
      says = inr (λ e. true≢false (sym e ∙ still), inr (λ l. let w = wide in omega arith, inr (λ unfit. unfit became.fitted, refl)));
      leaves =
          let n = ch.laws.small d.chart.below in
          ap (λ k. state (take k live) (cells_of d.netlist) (negated (ch.column x.below 0 (ch.root x.below))) d.netlist.closed) became.counted
          ∙ ap (λ l. state l (cells_of d.netlist) (negated (ch.column x.below 0 (ch.root x.below))) d.netlist.closed) (ap (take m) (is ∙ sym (swap_is d.live p (p + 1) 0 (omega arith) (omega arith))) ∙ crossed p m d.live fit (omega arith))
          ∙ ap (λ f. state (swapped p (take m d.live)) (cells_of d.netlist) f d.netlist.closed) became.meaning
          ∙ ap (state (swapped p (take m d.live)) (cells_of d.netlist) (exchanged p (left_of ch ru fa d))) still;
    };
    refused = λ e. absurd (true≢false e);
    rule = refl;
    family = refl;
    inputs = refl;
    fitting = fits_below ch d.chart x became.fitting;
  }
