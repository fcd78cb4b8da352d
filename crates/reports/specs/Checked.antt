-- What the lines of a text read as, and the report on them.
use Rattle.std.specs.Prelude.{◌≡◌, ℕ, ◌+◌, Bool, true, false, List, [], ◌∷◌, ◌++◌, length, string_bytes, codes, decimal, count_by, Option, MatchOption, ◌≢◌}
use Rattle.frames.specs.declared.faults.PageFault.TheVariants.{Record}
use Rattle.frames.specs.declared.faults.RecordFault.TheVariants.{Frame}
use Rattle.frames.specs.declared.reader.FrameReader.{FrameReader}
use Rattle.frames.specs.Outcome.{Outcome, frame, end, fault, reading, past, line_after}
use Rattle.frames.specs.Reading.{left}
use Rattle.reports.specs.Words.{fault_text, frame_text}
use Rattle.reports.specs.declared.check.Report.{Report}
use Rattle.reports.specs.declared.check.LineReport.{LineReport}

-- the lines from the front of xs to the front of ys, in order, and what each of them reads as
pub data Lines : List ℕ → ℕ → List Outcome → List ℕ → ℕ → Type 0 where
  here : {xs : List ℕ} {line : ℕ} → Lines xs line [] xs line
  next : {xs ys : List ℕ} {line last : ℕ} {o : Outcome} {os : List Outcome} → reading xs line ≡ o → (o ≢ end) → Lines (past xs) (line_after xs line) os ys last → Lines xs line (o ∷ os) ys last

-- a line's outcome in words, ended by a line end
abbrev pub outcome_text : ℕ → Outcome → List ℕ
outcome_text line (frame bs) = frame_text line bs ++ (10 ∷ [])
outcome_text line end = []
outcome_text line (fault w e) = fault_text (Record (Frame e)) ++ (10 ∷ [])

-- the outcomes of lines, of which the first has this number, in words
abbrev pub lines_text : ℕ → List Outcome → List ℕ
lines_text line [] = []
lines_text line (o ∷ os) = outcome_text line o ++ lines_text (line + 1) os

-- is this a good frame?
abbrev pub is_good : Outcome → Bool
is_good (frame bs) = true
is_good end = false
is_good (fault w e) = false

-- is this a fault?
abbrev pub is_fault : Outcome → Bool
is_fault (frame bs) = false
is_fault end = false
is_fault (fault w e) = true

-- the total: how many lines there are, and how many of them are good and faulty
abbrev pub total_text : ℕ → ℕ → ℕ → List ℕ
total_text lines good faulty = decimal lines ++ (codes " lines: " ++ (decimal good ++ (codes " good, " ++ (decimal faulty ++ (codes " faulty" ++ (10 ∷ []))))))

-- the line at which a reader stands, in words; none at the end
pub record LineRead (reader : FrameReader) (l : LineReport) : Type 0 where
  pub more : reading (left reader) reader.line ≡ end → ⊥
  pub said : string_bytes l.text ≡ outcome_text reader.line (reading (left reader) reader.line)
  pub judged : l.faulty ≡ is_fault (reading (left reader) reader.line)

abbrev pub LineFound : FrameReader → Option LineReport → Type 0
LineFound reader o = MatchOption o (reading (left reader) reader.line ≡ end) (LineRead reader)

-- the report on a text: each of its lines to the last in words, the total, and how many faults there are
pub record Checked (xs : List ℕ) (r : Report) : Type 0 where
  pub outcomes : List Outcome
  pub read : Lines xs 1 outcomes [] (length outcomes + 1)
  pub said : string_bytes r.text ≡ lines_text 1 outcomes ++ total_text (length outcomes) (count_by is_good outcomes) (count_by is_fault outcomes)
  pub counted : r.faulty ≡ count_by is_fault outcomes
