use Rattle.std.proofs.Common.{ap, ◌∙◌, arith}
use Rattle.std.proofs.lemmas.List.{take_all}
use Rattle.bitpages.specs.Table.{byte_of}
use Rattle.bitpages.proofs.Packing.{byte_of-set, byte_of_skip}
use Rattle.bitpages.proofs.writing.byte_of.Goals as goal
use Rattle.bitpages.proofs.writing.byte_of.Goals.{then-bit, else-bit}

pub overflow_add-byte : goal.overflow_add-byte
overflow_add-byte c = omega (arith, (byte_of-set c.args.eight.now c.loop-j.j (omega arith) c.loop-j.byte c.if-bit.true c.loop-j.invariant (omega arith)).1)

pub loop-j-preserved : goal.loop-j-preserved
loop-j-preserved c = elim c.if-bit.branch [
  | then-bit w ↦ w.byte-is ∙ (byte_of-set c.args.eight.now c.loop-j.j (omega arith) c.loop-j.byte w.if-bit.true c.loop-j.invariant (omega arith)).0
  | else-bit w ↦ w.byte-is ∙ c.loop-j.invariant ∙ byte_of_skip c.args.eight.now c.loop-j.j (omega arith) w.if-bit.false
]

pub returns : goal.returns
returns c = c.loop-j.invariant ∙ ap byte_of (take_all c.loop-j.j c.args.eight.now (omega arith))
