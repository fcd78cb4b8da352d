use Rattle.std.proofs.Common.{ℕ, ◌^◌, Bool, ap, ◌∙◌, rules}
use native.Mathlib.Nat.{min-eq_left}
use Rattle.functions.specs.Functions.{value}
use Rattle.functions.specs.Words.{bits}
use Rattle.families.specs.Tables.{tabled}
use Rattle.families.proofs.TableEntries.{tabulated_row}
use Rattle.charts.specs.Walks.{chart_function}
use Rattle.design.proofs.tables.function_table.Goals as goal

pub returns : goal.returns
returns g c =
    let m = g.C.Chart.arity c.args.chart.now in
    let row : ℕ → Bool = λ e. value (chart_function g.C.Chart c.args.chart.now) (bits m e) in
    tabulated_row {row = row} _ _ c.tabulate.ensures.made (λ e b l k. search rules)
    ∙ ap (λ k. tabled k row) (min-eq_left c.assignments.ensures.bound ∙ (c.assignments.ensures.value ∙ ap (λ k. 2 ^ k) c.count.ensures))
