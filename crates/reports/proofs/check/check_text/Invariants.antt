use Rattle.std.proofs.Common.{length, string_bytes}
use Rattle.frames.specs.Reading.{left}
use Rattle.reports.proofs.Run.{SoFar}
use Rattle.reports.proofs.check.check_text.Given as goal

abbrev pub invariant-loop-all : goal.invariant-loop-all
invariant-loop-all l = SoFar l.text (left l.reader) l.reader.line (string_bytes l.all) l.faulty

-- what is left to read falls
abbrev pub decreases-loop-all : goal.decreases-loop-all
decreases-loop-all l = length (left l.reader)
