use Rattle.std.proofs.Common.{◌^◌, ◌<◌, arith, pow_mono}
use native.Mathlib.Nat.{div-eq_of_lt}
use Rattle.std.proofs.lemmas.Bool.{le-ltb}
use Rattle.bits.proofs.bit_of.Goals as goal

pub returns-else-k-lt64 : goal.returns-else-k-lt64
returns-else-k-lt64 c =
    let low : c.args.n < 2 ^ c.args.k = omega (arith, pow_mono c.if-k-lt64.false) in
    rw (le-ltb c.args.k 64 c.if-k-lt64.false, div-eq_of_lt low)
