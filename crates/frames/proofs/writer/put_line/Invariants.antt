use Rattle.std.proofs.Common.{◌≡◌, take}
use Rattle.frames.specs.Text.{hex, placed}
use Rattle.frames.proofs.writer.put_line.Given as goal

abbrev pub invariant-loop-i : goal.invariant-loop-i
invariant-loop-i l = l.out ≡ placed l.initial.out l.start (hex (take l.i l.bytes))
