use Rattle.std.proofs.Common.{length, arith}
use Rattle.std.proofs.lemmas.Bool.Decides.{nat_tests}
use Rattle.rows.specs.Rows.{items}
use Rattle.nodes.proofs.Indexes.{walk_first, walk_falls, walk_more}
use Rattle.nodes.proofs.store.Store.find.Goals as goal

pub loop-cur-init : goal.loop-cur-init
loop-cur-init c = let s = c.args.self.now in walk_first (items s.nodes) s.heads s.nexts (length (items s.nodes)) s.indexed c.args.node c.bucket.result c.bucket.ensures

pub overflow_sub-from : goal.overflow_sub-from
overflow_sub-from c = omega (arith, c.loop-cur.invariant.1 c.in-Some.n c.in-Some.is)

pub loop-cur-smaller : goal.loop-cur-smaller
loop-cur-smaller c =
    let s = c.args.self.now in
    let h = c.loop-cur.invariant.1 c.in-Some.n c.in-Some.is in
    rw (c.after-cur.ensures, c.in-Some.is) (walk_falls (items s.nodes) s.heads s.nexts (length (items s.nodes)) s.indexed c.in-Some.n h.0 h.1)

pub loop-cur-preserved : goal.loop-cur-preserved
loop-cur-preserved c =
    let s = c.args.self.now in
    rw c.after-cur.ensures (walk_more (items s.nodes) s.heads s.nexts (length (items s.nodes)) s.indexed c.args.node c.loop-cur.cur c.loop-cur.invariant c.in-Some.n c.in-Some.is (λ e. grind (arith, nat_tests)))
