use Rattle.std.proofs.Common.{◌≡◌, ℕ, ◌+◌, ◌-◌, ◌≤◌, ◌++◌, length, take, drop, replicate, refl, ap, ◌∙◌, subst, arith}
use Rattle.std.specs.List.{range_with_len}
use Rattle.std.proofs.lemmas.List.{length-drop, length-take, take_all}
use borrow.Rule.Slice.PartMut.{put_mid}
use Rattle.design.proofs.Rows.{range_push, live_row}
use Rattle.design.proofs.splitting.live_after.Goals as goal

pub loop-i-preserved : goal.loop-i-preserved
loop-i-preserved c = range_push c.args.first c.loop-i.i c.loop-i.signal-items (omega (arith, c.loop-i.auto.signal-items)) c.loop-i.invariant

pub returns : goal.returns
returns c =
    let j = c.args.j in
    let live = c.args.live.now in
    let news = c.loop-i.signal-items in
    let few : c.args.j ≤ 16 = omega arith in
    let long : length c.loop-i.signal-items ≡ c.args.j = c.loop-i.auto.signal-items ∙ length-take j (replicate 16 0) ∙ omega arith in
    let done : c.loop-i.i ≡ c.args.j = omega (arith, length-take {A = ℕ} c.args.j (replicate 16 0), c.loop-i-test.false, c.loop-i.auto.i-end) in
    ap (λ ys. take (length live - c.args.b + j) (put_mid j (length live - c.args.b + j - j) (news ++ drop j (replicate 16 0)) ys)) (c.copy_from_slice.ensures.after ∙ take_all (length live - c.args.b) (drop c.args.b live) (omega (arith, length-drop c.args.b live)))
    ∙ live_row c.args.live.now news (replicate 16 0) c.args.b j c.args.first (omega arith) (omega arith) (omega arith) long refl (subst (λ k. take k c.loop-i.signal-items ≡ range_with_len c.args.first k) done c.loop-i.invariant)
