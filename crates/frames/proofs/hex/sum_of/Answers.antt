use Rattle.std.proofs.Common.{◌∙◌, arith}
use Rattle.frames.proofs.Seals.{fold-wraps}
use Rattle.frames.proofs.hex.sum_of.Goals as goal

pub returns : goal.returns
returns c = c.wrapping_sum.ensures ∙ fold-wraps 0 c.args.bytes.now (omega arith) ∙ omega arith
