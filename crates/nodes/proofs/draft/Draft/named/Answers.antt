use Rattle.std.proofs.Common.{length, ap, arith}
use Rattle.rows.specs.Rows.{items}
use Rattle.nodes.proofs.Indexes.{smaller-children, get_or-copies}
use Rattle.nodes.proofs.Naming.{names_more}
use Rattle.nodes.proofs.draft.Draft.named.Goals as goal

pub loop-node-init : goal.loop-node-init
loop-node-init c = λ n. get_or-copies 3074 n _

pub spread-requires : goal.spread-requires
spread-requires c =
    let d = c.args.self.now in
    let p = smaller-children d.arity (items d.store.nodes) c.loop-node.node-index d.ordered (omega (arith, ap length c.as_slice-node-items.ensures.value)) in
    rw c.as_slice-node-items.ensures.value (record { low = omega (arith, p.0); high = omega (arith, p.1) })

pub loop-node-preserved : goal.loop-node-preserved
loop-node-preserved c =
    let s = c.args.self.now.store in
    names_more (items s.nodes) c.loop-node.node-index (omega (arith, ap length c.as_slice-node-items.ensures.value)) c.loop-node.marks c.spread.new.marks (rw c.as_slice-node-items.ensures.value at c.spread.ensures) c.loop-node.invariant
