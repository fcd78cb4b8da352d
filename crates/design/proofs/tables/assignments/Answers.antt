use Rattle.std.proofs.Common.{◌^◌, ◌≤◌, arith, pow_mono}
use Rattle.design.proofs.tables.assignments.Goals as goal

pub returns : goal.returns
returns c =
    let e = c.power.ensures.within (omega arith) in
    let most : 2 ^ c.args.signals ≤ 32 = pow_mono c.requires in
    record { value = e; bound = omega arith }
