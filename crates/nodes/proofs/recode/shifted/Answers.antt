use Rattle.std.proofs.Common.{◌+◌, ◌<◌, length, ap, subst, arith}
use Rattle.rows.specs.Rows.{items}
use Rattle.nodes.specs.declared.node.Node.{Node}
use Rattle.nodes.specs.Diagrams.{at}
use Rattle.nodes.proofs.Indexes.{at-index}
use Rattle.nodes.proofs.recode.shifted.Goals as goal

pub moved-requires-clause-small : goal.moved-requires-clause-small
moved-requires-clause-small c =
    let s = c.args.chart.now in
    let i = c.loop-old.old-index in
    let p = s.ordered (i + 2) (omega arith) (omega (arith, ap length c.as_slice-old-items.ensures.value)) in
    let P : Node → Type 0 = λ y. y.var < 16 in
    let w : P (at (items s.nodes) (i + 2)) = omega (arith, p.0) in
    rw c.as_slice-old-items.ensures.value (subst P (at-index (items s.nodes) i) w)
