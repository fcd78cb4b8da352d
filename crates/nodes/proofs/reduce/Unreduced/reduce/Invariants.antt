use Rattle.std.proofs.Common.{◌≡◌, length}
use Rattle.rows.specs.Rows.{items}
use Rattle.nodes.specs.Diagrams.{mean}
use Rattle.nodes.proofs.Making.{State}
use Rattle.nodes.proofs.Rebuilding.{Turn}
use Rattle.nodes.proofs.reduce.Unreduced.reduce.Given as goal

abbrev pub invariant-loop-i : goal.invariant-loop-i
invariant-loop-i l =
    State l.self.arity (mean l.self.nodes.now l.self.arity 0 l.self.root) (items l.store.nodes) (length (items l.store.nodes))
    × Turn l.self.arity l.self.nodes.now l.marks l.i (items l.store.nodes) (length (items l.store.nodes)) l.new
    × (length l.new ≡ 3074)
