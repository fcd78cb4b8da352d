use Rattle.std.proofs.Common.{◌≡◌, ◌+◌, ◌*◌, length}
use Rattle.rows.specs.Rows.{items}
use Rattle.nodes.specs.Exchanges.{Trios}
use Rattle.nodes.proofs.exchange.spread_out.Given as goal

abbrev pub invariant-loop-i : goal.invariant-loop-i
invariant-loop-i l = record {
  arity : l.raw.arity ≡ l.fn.raw.arity;
  count : length (items l.raw.nodes) ≡ 3 * l.i;
  trios : Trios (items l.chart.nodes) l.p (l.i + 2) (items l.raw.nodes);
}
