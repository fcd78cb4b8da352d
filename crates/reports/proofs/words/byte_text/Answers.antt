use Rattle.std.proofs.Common.{arith}
use Rattle.frames.proofs.HexText.{styled_byte}
use Rattle.reports.proofs.words.byte_text.Goals as goal

pub returns : goal.returns
returns c =
    let byte = styled_byte c.args.byte c.in_radix.result c.laid_out.result (omega arith) c.in_radix.ensures c.laid_out.ensures in
    rw byte at c.format.ensures.ok
