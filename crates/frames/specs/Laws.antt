-- What reading means, in terms of the text that writing gives.
use Rattle.std.specs.Prelude.{◌≡◌, ℕ, ◌-◌, ◌*◌, ◌%◌, ◌<◌, ◌≤◌, List, [], ◌∷◌, ◌++◌, length, take, None, sum, ◌≢◌, slice_index}
use Rattle.std.specs.List.{AllByRecursion}
use Rattle.frames.specs.declared.faults.Flaw.{Flaw}
use Rattle.frames.specs.declared.faults.Flaw.TheVariants.{NoEnd, Character, OddDigits, Length}
use Rattle.frames.specs.declared.faults.FrameFault.TheVariants.{Malformed, WrongSum}
use Rattle.frames.specs.Text.{Sized, Good, Bytes, digit_value, width, line_text, text}
use Rattle.frames.specs.Numbers.{numbers}
use Rattle.frames.specs.Outcome.{Outcome, frame, end, fault, summed as by_sum, reading, past, line_after}

-- a good frame of bytes
abbrev pub Sound : List ℕ → Type 0
Sound f = Good f × Bytes f

-- xs begins with the line of 2 to 24 bytes, and rest follows it
pub record Begins (xs bs rest : List ℕ) : Type 0 where
  pub sized : Sized bs
  pub bytes : Bytes bs
  pub starts : xs ≡ line_text bs ++ rest

-- what a flaw says of the line at which xs begins
abbrev pub Shows : List ℕ → Flaw → Type 0
Shows xs NoEnd = width xs ≡ length xs
Shows xs (Character k) = (1 ≤ k) × (k ≤ width xs) × (digit_value (slice_index xs (k - 1)) ≡ None)
Shows xs OddDigits = width xs % 2 ≡ 1
Shows xs (Length n) = (width xs ≡ 2 * n) × (2 ≤ n → n ≤ 24 → ⊥)

-- what an outcome says of the text xs that is read from this line on
pub data Tells (xs : List ℕ) (line : ℕ) : Outcome → Type 0 where
  -- nothing is left
  none : xs ≡ [] → Tells xs line end
  -- the line of a good frame
  good : (f : List ℕ) → Begins xs f (past xs) → sum f % 256 ≡ 0 → Tells xs line (frame f)
  -- cause 2: the line of bytes with a wrong sum, which the byte `right` in the last place would mend
  summed : (bs : List ℕ) (right : ℕ) → Begins xs bs (past xs) → (sum bs % 256 ≢ 0) → Sound (take (length bs - 1) bs ++ (right ∷ [])) → Tells xs line (fault (numbers 1 2 line 0) (WrongSum line right))
  -- cause 1: there is something, and it is not the line of 2 to 24 bytes, as the flaw shows
  malformed : (w : Flaw) → 0 < length xs → ((bs rest : List ℕ) → Begins xs bs rest → ⊥) → Shows xs w → Tells xs line (fault (numbers 1 1 line 0) (Malformed line w))

-- every list of bytes reads as what it is, at any line
abbrev pub ReadingTells : Type 0
ReadingTells = (xs : List ℕ) (line : ℕ) → Tells xs line (reading xs line)

-- a text that begins with the line of 2 to 24 bytes reads as those bytes or their wrong sum, and what follows is left
abbrev pub LineReads : Type 0
LineReads =
    (bs rest : List ℕ) (line : ℕ) → Sized bs → Bytes bs → (reading (line_text bs ++ rest) line ≡ by_sum line bs) × (past (line_text bs ++ rest) ≡ rest)

-- a text, read from a line on, gives these frames in order and then its end
pub data Reads : List ℕ → ℕ → List (List ℕ) → Type 0 where
  done : {xs : List ℕ} {line : ℕ} → reading xs line ≡ end → Reads xs line []
  more : {xs : List ℕ} {line : ℕ} {f : List ℕ} {fs : List (List ℕ)} → reading xs line ≡ frame f → Reads (past xs) (line_after xs line) fs → Reads xs line (f ∷ fs)

-- the text of good frames reads as those frames and then the end
abbrev pub WrittenReads : Type 0
WrittenReads = (fs : List (List ℕ)) (line : ℕ) → AllByRecursion Sound fs → Reads (text fs) line fs

-- a text that reads as frames is exactly the text of those frames, and they are good
abbrev pub ReadIsWritten : Type 0
ReadIsWritten = (fs : List (List ℕ)) (line : ℕ) (xs : List ℕ) → Reads xs line fs → (xs ≡ text fs) × AllByRecursion Sound fs
