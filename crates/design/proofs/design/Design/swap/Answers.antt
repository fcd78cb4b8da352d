use Rattle.std.proofs.Common.{◌≡◌, length, arith}
use Rattle.design.proofs.Swaps.{swap_done}
use Rattle.design.proofs.design.Design.swap.Goals as goal

pub returns : goal.returns
returns g c =
    let long : length c.args.self.now.live ≡ 16 = omega arith in
    let done = c.in_ok-swap.ensures {u = c.in_ok-swap.field-0} in
    swap_done g.C.Chart g.R.CodeRule g.F.CellFamily c.args.self.now c.args.p long c.if-self.false c.swap.new.self c.exchange.new.live c.exchange.ensures done.0 done.1
