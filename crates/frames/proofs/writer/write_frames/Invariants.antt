use Rattle.std.proofs.Common.{◌≡◌, length, take}
use Rattle.frames.specs.Text.{over}
use Rattle.frames.specs.Writing.{text_of}
use Rattle.frames.proofs.writer.write_frames.Given as goal

abbrev pub invariant-loop-frame : goal.invariant-loop-frame
invariant-loop-frame l = (l.at ≡ length (text_of (take l.frame-index l.frames))) × (l.out ≡ over l.initial.out (text_of (take l.frame-index l.frames)))
