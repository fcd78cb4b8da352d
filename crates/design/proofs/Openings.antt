-- What a design is as it is opened.
use Rattle.std.proofs.Common.{◌≡◌, ℕ, ◌≤◌, false, List, [], take, sym, refl, ap, ◌∙◌}
use Rattle.std.specs.List.{range_with_len}
use Rattle.std.proofs.lemmas.List.FromFn.{take-map-range_with_len}
use Rattle.std.proofs.lemmas.List.{map-id}
use Rattle.functions.specs.Functions.{negated}
use Rattle.charts.specs.declared.chart.Chart as chart
use Rattle.charts.specs.declared.inverting.Inverting.{Inverting}
use Rattle.charts.specs.Walks.{chart_function}
use Rattle.rules.specs.declared.rule.CodeRule as rule
use Rattle.families.specs.declared.family.CellFamily as family
use Rattle.mapping.specs.States.{state}
use Rattle.design.specs.declared.netlist.Netlist.{Netlist}
use Rattle.design.specs.Cells.{cells_of}
use Rattle.design.specs.Designs.{Opened}

-- the first n of sixteen inputs
pub inputs-first : (n : ℕ) → n ≤ 16 → take n (range_with_len 0 16) ≡ range_with_len 0 n
inputs-first n h = ap (take n) (sym (map-id (range_with_len 0 16))) ∙ take-map-range_with_len (λ i. i) 0 16 n h ∙ map-id (range_with_len 0 n)

module _ {C P R F : Type 0} (ch : chart.Ghosts C P) (ru : rule.Ghosts R) (fa : family.Ghosts F) where
  pub design-opened : (c : C) (r : R) (f : F) (x : Inverting C P) (n : ℕ) (live : List ℕ) (w : Netlist) → x.below ≡ c → n ≡ ch.arity c → live ≡ range_with_len 0 16 → cells_of w ≡ [] → w.closed ≡ false →
      Opened ch ru fa c r f (record { chart = x; rule = r; family = f; inputs = n; live = live; netlist = w })
  design-opened c r f x n live w below counted is none open-still = record {
    below = below;
    rule = refl;
    family = refl;
    inputs = counted;
    state =
        ap (λ l. state l (cells_of w) (negated (chart_function ch x.below)) w.closed) (ap (take (ch.arity x.below)) is ∙ ap (λ b. take (ch.arity b) (range_with_len 0 16)) below ∙ inputs-first (ch.arity c) (ch.laws.small c))
        ∙ ap (λ cs. state (range_with_len 0 (ch.arity c)) cs (negated (chart_function ch x.below)) w.closed) none
        ∙ ap (λ b. state (range_with_len 0 (ch.arity c)) [] (negated (chart_function ch b)) w.closed) below
        ∙ ap (state (range_with_len 0 (ch.arity c)) [] (negated (chart_function ch c))) open-still;
  }
