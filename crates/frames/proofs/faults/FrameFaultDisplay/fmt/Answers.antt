use Rattle.std.proofs.Common.{arith}
use Rattle.frames.proofs.HexText.{styled_byte}
use Rattle.frames.proofs.faults.FrameFaultDisplay.fmt.Goals as goal

pub returns-in-WrongSum-clause-writes : goal.returns-in-WrongSum-clause-writes
returns-in-WrongSum-clause-writes g c =
    let byte = styled_byte c.in-WrongSum.right c.in_radix.result c.laid_out.result (omega arith) c.in_radix.ensures c.laid_out.ensures in
    rw c.in-WrongSum.is (rw byte at c.write-in-WrongSum.ensures.writes)
