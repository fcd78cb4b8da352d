use Rattle.std.proofs.Common.{◌≡◌, ℕ, ◌^◌, ap, ◌∙◌, arith}
use Rattle.bitpages.specs.Table.{size}
use Rattle.bitpages.proofs.Sizes.{size_low, size-high}
use Rattle.bitpages.proofs.records.Arity.bytes.Goals as goal

pub returns : goal.returns
returns c =
    let n = c.args.self.n in
    let e : c.power.result ≡ size n = c.power.ensures.within (omega arith) ∙ ap (λ (k : ℕ). 2 ^ k) c.saturating_sub.ensures in
    record { value = e; bound = (omega (arith, size_low n), omega (arith, size-high n (omega arith))) }
