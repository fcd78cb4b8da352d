use Rattle.std.proofs.Common.{◌≡◌, ◌-◌, min, ◌++◌, string_bytes}
use Rattle.charts.specs.Walks.{chart_function}
use Rattle.counts.specs.Counts.{inputs_text, widths_text}
use Rattle.counts.proofs.counts_text.Given as goal

abbrev pub invariant-loop-width : goal.invariant-loop-width
invariant-loop-width g l = string_bytes l.text ≡ inputs_text (g.C.Chart.arity l.chart) ++ widths_text (min (l.width - 1) (g.C.Chart.arity l.chart)) (chart_function g.C.Chart l.chart)
