use Rattle.std.proofs.Common.{length, unwrap_or}
use Rattle.rows.specs.Rows.{items}
use Rattle.nodes.proofs.Indexes.{Walk}
use Rattle.nodes.proofs.store.Store.find.Given as goal

abbrev pub invariant-loop-cur : goal.invariant-loop-cur
invariant-loop-cur l = Walk (items l.self.nodes) (length (items l.self.nodes)) l.node l.cur

abbrev pub decreases-loop-cur : goal.decreases-loop-cur
decreases-loop-cur l = unwrap_or l.cur 0
