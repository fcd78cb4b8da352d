use Rattle.std.proofs.Common.{◌≡◌, ◌+◌, ◌-◌, length}
use Rattle.rows.specs.Rows.{items}
use Rattle.nodes.specs.Recodes.{Shifts}
use Rattle.nodes.proofs.recode.shifted.Given as goal

abbrev pub invariant-loop-old : goal.invariant-loop-old
invariant-loop-old l = record {
  arity : l.raw.arity ≡ l.fn.raw.arity;
  count : length (items l.raw.nodes) ≡ l.old-index;
  shifts : Shifts (items l.chart.nodes) l.b l.j (l.old-index + 2) (items l.raw.nodes);
}
