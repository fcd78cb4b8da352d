use Rattle.std.proofs.Common.{ℕ, ◌<◌, false, slice_index_or}
use Rattle.charts.proofs.bit_chart.filled.Given as goal

abbrev pub invariant-loop-i : goal.invariant-loop-i
invariant-loop-i g l = (k : ℕ) → k < l.i → goal.F-post g l.entry k (slice_index_or l.bit-items k false)
