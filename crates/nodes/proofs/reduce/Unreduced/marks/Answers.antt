use Rattle.std.proofs.Common.{sym, arith}
use Rattle.nodes.proofs.Marking.{marking_first, marking_more, marking_skip, marking_small, marking_inside}
use Rattle.nodes.proofs.reduce.Unreduced.marks.Goals as goal

pub loop-i-init : goal.loop-i-init
loop-i-init c = marking_first _ 3074 _ _ c.from.ensures (omega arith) _ _ (cc) (cc)

pub loop-i-preserved-then-is_marked : goal.loop-i-preserved-then-is_marked
loop-i-preserved-then-is_marked c =
    let s = c.args.self.now in
    let h = c.in-Some.ensures.steps in
    marking_more s.nodes.now s.root _ _ c.loop-i.marks c.loop-i.invariant _ c.in-Some.node.now h.1.0 _ c.in-Some.i h.0 h.1.1 s.arity s.ordered c.spread.new.marks (sym c.if-is_marked.ensures) c.spread.ensures

pub loop-i-preserved : goal.loop-i-preserved
loop-i-preserved c =
    let s = c.args.self.now in
    let h = c.in-Some.ensures.steps in
    marking_skip s.nodes.now s.root _ _ c.loop-i.marks c.loop-i.invariant _ c.in-Some.node.now h.1.0 _ c.in-Some.i h.0 h.1.1 (sym c.if-is_marked.ensures)

pub spread-requires : goal.spread-requires
spread-requires c =
    let s = c.args.self.now in
    let h = c.in-Some.ensures.steps in
    let p = marking_small s.nodes.now s.root _ _ c.loop-i.marks c.loop-i.invariant _ c.in-Some.node.now h.1.0 c.next.new.self.iter.count c.in-Some.i h.0 h.1.1 s.arity s.ordered in
    let q = marking_inside s.nodes.now s.root _ _ c.loop-i.marks c.loop-i.invariant _ c.in-Some.node.now h.1.0 c.next.new.self.iter.count c.in-Some.i h.0 h.1.1 in
    record { low = omega (arith, p.0); high = omega (arith, p.1) }
