use Rattle.std.proofs.Common.{◌≡◌, ℕ, ◌<◌, length, get_or}
use Rattle.rows.specs.Rows.{items}
use Rattle.nodes.specs.NodeCharts.{seen}
use Rattle.nodes.proofs.recode.leaves_of.Given as goal

abbrev pub invariant-loop-q : goal.invariant-loop-q
invariant-loop-q l =
    ((x : ℕ) → x < l.q → get_or l.leaves x 0 ≡ seen (items l.chart.nodes) (length (items l.chart.nodes)) l.recoding.bound (get_or l.recoding.places.now (get_or l.recoding.class_of.now x 0) 0))
    × (length l.leaves ≡ 16)
