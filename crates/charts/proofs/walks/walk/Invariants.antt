use Rattle.std.proofs.Common.{◌≡◌, ◌-◌}
use Rattle.functions.specs.Words.{bits}
use Rattle.charts.specs.Walks.{led, reached}
use Rattle.charts.proofs.walks.walk.Given as goal

abbrev pub invariant-loop-depth : goal.invariant-loop-depth
invariant-loop-depth g l = led (g.C.Chart.next l.chart) l.depth l.place (bits (l.b - l.depth) l.a) ≡ reached g.C.Chart l.chart l.b l.a
