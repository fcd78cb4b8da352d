use Rattle.std.proofs.Common.{◌≡◌, length, take, refl, ◌∙◌, arith}
use Rattle.std.proofs.lemmas.List.{length-take-le}
use Rattle.mapping.specs.declared.answer.Answer.TheVariants.{Wrote}
use Rattle.design.proofs.Lent.{write_lent}
use Rattle.design.proofs.design.Design.try_call.Goals as goal

pub returns-in_ok-bytes-in-Write : goal.returns-in_ok-bytes-in-Write
returns-in_ok-bytes-in-Write g c =
    let out = c.args.out.now in
    let n = c.min-lent-in-Write.result in
    let kept : length c.write.new.out ≡ length (take c.min-lent-in-Write.result c.args.out.now) = omega arith in
    let a = Wrote c.in_ok-bytes-in-Write.bytes in
    write_lent g.C.Chart g.R.CodeRule g.F.CellFamily c.args.self.now c.args.self.now c.args.strip.now out c.args.call a a c.in-Write.room n refl
    c.write.new.out _ c.in-Write.is c.min-lent-in-Write.ensures (kept ∙ length-take-le n out (omega (arith, c.min-lent-in-Write.ensures))) refl (c.in_ok-bytes-in-Write.ensures {u = tt})
