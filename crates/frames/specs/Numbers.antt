-- The layer, cause, line and node of every fault.
use Rattle.std.specs.Prelude.{ℕ}
use Rattle.frames.specs.declared.faults.FaultNumbers.{FaultNumbers}
use Rattle.frames.specs.declared.faults.FrameFault.{FrameFault}
use Rattle.frames.specs.declared.faults.FrameFault.TheVariants.{Malformed, WrongSum, NotDue}
use Rattle.frames.specs.declared.faults.RecordFault.{RecordFault}
use Rattle.frames.specs.declared.faults.RecordFault.TheVariants.{Frame, OutOfRange, BadPlace, Repeated, BadPin}
use Rattle.frames.specs.declared.faults.PageFault.{PageFault}
use Rattle.frames.specs.declared.faults.PageFault.TheVariants.{Record, Unnamed, Missing, Surplus, TooLong}

-- a fault by its layer, cause, line and node
abbrev pub numbers : ℕ → ℕ → ℕ → ℕ → FaultNumbers
numbers y c l n = record { layer = y; cause = c; line = l; node = n }

-- layer 1: what is wrong with a line
abbrev pub frame_numbers : FrameFault → FaultNumbers
frame_numbers (Malformed l w) = numbers 1 1 l 0
frame_numbers (WrongSum l b) = numbers 1 2 l 0
frame_numbers (NotDue l) = numbers 1 3 l 0

-- layer 2: what is wrong with a frame's fields, or the fault below it
abbrev pub record_numbers : RecordFault → FaultNumbers
record_numbers (Frame f) = frame_numbers f
record_numbers (OutOfRange l) = numbers 2 4 l 0
record_numbers (BadPlace l n) = numbers 2 5 l n
record_numbers (Repeated l n) = numbers 2 6 l n
record_numbers (BadPin l) = numbers 2 9 l 0

-- layer 3: what is wrong with the frames together, or the fault below it
abbrev pub page_numbers : PageFault → FaultNumbers
page_numbers (Record f) = record_numbers f
page_numbers (Unnamed l n) = numbers 3 7 l n
page_numbers (Missing l) = numbers 3 8 l 0
page_numbers (Surplus l) = numbers 3 8 l 0
page_numbers TooLong = numbers 3 8 0 0
