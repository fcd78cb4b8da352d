use Rattle.std.proofs.Common.{◌≡◌, map}
use Rattle.std.specs.List.{range_with_len}
use Rattle.functions.specs.Classes.{class_of}
use Rattle.functions.specs.Words.{bits}
use Rattle.charts.specs.Walks.{chart_function}
use Rattle.rows.specs.Rows.{items}
use Rattle.design.proofs.codes.class_numbers.Given as goal

abbrev pub invariant-loop-e : goal.invariant-loop-e
invariant-loop-e g l = items l.numbers ≡ map (λ e. class_of l.b (chart_function g.C.Chart l.chart) (bits l.b e)) (range_with_len 0 l.e)
