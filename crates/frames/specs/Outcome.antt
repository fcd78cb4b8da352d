-- What stands at a place of a text: a frame, the end, or a fault.
use Rattle.std.specs.Prelude.{ℕ, ◌+◌, ◌-◌, ◌/◌, ◌%◌, Bool, cond, ◌&&◌, List, [], ◌∷◌, length, take, drop, Some, None, Ok, Err, sum, Option, Result, ◌==◌, nat_lt, slice_index}
use Rattle.std.specs.List.{list_any}
use Rattle.rows.specs.Rows.{items}
use Rattle.frames.specs.declared.frame.Frame.{Frame}
use Rattle.frames.specs.declared.frame.Form.{Form}
use Rattle.frames.specs.declared.faults.FaultNumbers.{FaultNumbers}
use Rattle.frames.specs.declared.faults.Flaw.{Flaw}
use Rattle.frames.specs.declared.faults.Flaw.TheVariants.{NoEnd, Character, OddDigits, Length}
use Rattle.frames.specs.declared.faults.FrameFault.{FrameFault}
use Rattle.frames.specs.declared.faults.FrameFault.TheVariants.{Malformed, WrongSum, NotDue}
use Rattle.frames.specs.Numbers.{numbers, frame_numbers}
use Rattle.frames.specs.Text.{bytes_of, bounded, width, digit_run, sealing}

-- the bytes of a frame
abbrev pub body : Frame → List ℕ
body f = items f.bytes

-- the bytes of a good frame, the end of the text, or what is wrong with the line: its layer, cause, line and node, and the fault
pub data Outcome : Type 0 where
  frame : List ℕ → Outcome
  end : Outcome
  fault : FaultNumbers → FrameFault → Outcome

-- the outcome that an answer tells
abbrev pub outcome : Result (Option Frame) FrameFault → Outcome
outcome (Ok (Some f)) = frame (body f)
outcome (Ok None) = end
outcome (Err e) = fault (frame_numbers e) e

-- the outcome that an answer about one line tells
abbrev pub told : Result Frame FrameFault → Outcome
told (Ok f) = frame (body f)
told (Err e) = fault (frame_numbers e) e

-- why the characters of a line write no 2 to 24 bytes: a wrong character first, then an odd digit, then the count
abbrev pub flaw_of : List ℕ → Flaw
flaw_of ds =
    cond (nat_lt (digit_run ds) (length ds)) (Character (digit_run ds + 1)) (cond (length ds % 2 == 1) OddDigits (Length (length ds / 2)))

-- bytes are a frame where their sum is a multiple of 256
abbrev pub summed : ℕ → List ℕ → Outcome
summed line bs = cond (sum bs % 256 == 0) (frame bs) (fault (numbers 1 2 line 0) (WrongSum line (sealing (take (length bs - 1) bs))))

-- what the bytes of a line are, if its characters ds write any
abbrev pub judged : ℕ → List ℕ → Option (List ℕ) → Outcome
judged line ds None = fault (numbers 1 1 line 0) (Malformed line (flaw_of ds))
judged line ds (Some bs) = summed line bs

-- what the characters of a line are
abbrev pub line_outcome : ℕ → List ℕ → Outcome
line_outcome line ds = judged line ds (bounded (bytes_of ds))

-- what stands at the start of a text, whose first line has this number
abbrev pub reading : List ℕ → ℕ → Outcome
reading [] line = end
reading (c ∷ cs) line =
    cond (nat_lt (width (c ∷ cs)) (length (c ∷ cs))) (line_outcome line (take (width (c ∷ cs)) (c ∷ cs))) (fault (numbers 1 1 line 0) (Malformed line NoEnd))

-- the text after its first line
abbrev pub past : List ℕ → List ℕ
past xs = drop (width xs + 1) xs

-- the number of the line there
abbrev pub line_after : List ℕ → ℕ → ℕ
line_after [] line = line
line_after (c ∷ cs) line = line + 1

-- does a form admit frames of this kind and byte count?
abbrev pub admits : Form → ℕ → ℕ → Bool
admits f k n = f.kind == k && f.len == n

-- is a frame of one of these forms?
abbrev pub is_due : List Form → List ℕ → Bool
is_due fs bs = list_any (λ f. admits f (slice_index bs 0) (length bs)) fs

-- a good frame that is not due is a fault
abbrev pub awaited : List Form → ℕ → Outcome → Outcome
awaited fs line (frame bs) = cond (is_due fs bs) (frame bs) (fault (numbers 1 3 line 0) (NotDue line))
awaited fs line end = end
awaited fs line (fault w e) = fault w e
