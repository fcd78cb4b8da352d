use Rattle.std.proofs.Common.{arith, pow_mono}
use Rattle.bitpages.proofs.records.Arity.entries.Goals as goal

pub returns : goal.returns
returns c =
    let p = c.power.ensures.within (omega (arith, c.args.self.range.1)) in
    record { value = p; bound = omega (arith, p, pow_mono {i = c.args.self.n} {j = 12} c.args.self.range.1) }
