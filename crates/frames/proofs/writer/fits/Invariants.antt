use Rattle.std.proofs.Common.{◌≡◌, leb, length, drop}
use Rattle.frames.specs.Writing.{text_of}
use Rattle.frames.proofs.writer.fits.Given as goal

abbrev pub invariant-loop-frame : goal.invariant-loop-frame
invariant-loop-frame l = leb (length (text_of (drop l.frame-index l.frames))) l.spare ≡ leb (length (text_of l.frames)) l.room
