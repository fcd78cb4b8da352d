-- Records: what the frame at the start of a text stands for, to a reader that knows which frames are due.
use Rattle.std.specs.Prelude.{ℕ, List, [], ◌∷◌, Some, None, Ok, Err, Option, Result}
use Rattle.frames.specs.declared.faults.FaultNumbers.{FaultNumbers}
use Rattle.frames.specs.declared.faults.RecordFault.{RecordFault}
use Rattle.frames.specs.declared.faults.RecordFault.TheVariants.{Frame}
use Rattle.frames.specs.declared.frame.Form.{Form}
use Rattle.frames.specs.declared.kinds.Kind.{Kind}
use Rattle.frames.specs.Kinds.{kind_byte}
use Rattle.frames.specs.Numbers.{record_numbers}
use Rattle.frames.specs.Outcome.{Outcome, frame, end, fault, reading, awaited}

-- what a record reads as: a value, the end of the text, or what is wrong: its numbers, and the fault
pub data Got (X : Type 0) : Type 0 where
  got : X → Got X
  gone : Got X
  bad : FaultNumbers → RecordFault → Got X

-- frames of this kind and byte count
abbrev pub form : Kind → ℕ → Form
form k n = record { kind = kind_byte k; len = n }

-- what stands at the start of a text where only a frame of this kind and byte count is due
abbrev pub due : Kind → ℕ → List ℕ → ℕ → Outcome
due k n xs line = awaited (form k n ∷ []) line (reading xs line)

-- a record: what its frame gives, the end of the text, or what is wrong with the line
abbrev pub recorded : {X : Type 0} → Outcome → (List ℕ → Got X) → Got X
recorded (frame bs) give = give bs
recorded end give = gone
recorded (fault w e) give = bad w (Frame e)

-- the frame at the start of a text, whatever it is
abbrev pub anything : List ℕ → ℕ → Got (List ℕ)
anything xs line = recorded (reading xs line) got

-- the record that an answer tells, where f is what its value stands for
abbrev pub answered : {X Y : Type 0} → (X → Y) → Result (Option X) RecordFault → Got Y
answered f (Ok (Some x)) = got (f x)
answered f (Ok None) = gone
answered f (Err e) = bad (record_numbers e) e
