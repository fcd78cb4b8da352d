-- Pages: what the records at the start of a text stand for together, and what the calls that read pages do.
use Rattle.std.specs.Prelude.{◌≡◌, ℕ, List, Ok, Err, Result}
use Rattle.frames.specs.declared.faults.FaultNumbers.{FaultNumbers}
use Rattle.frames.specs.declared.faults.PageFault.{PageFault}
use Rattle.frames.specs.declared.faults.PageFault.TheVariants.{Record, Missing, Surplus}
use Rattle.frames.specs.Numbers.{numbers, page_numbers}
use Rattle.frames.specs.Records.{Got, got, gone, bad, anything}

-- what a page reads as: its value, with the text and the line that follow it, or what is wrong: its numbers, and the fault
pub data Page (X : Type 0) : Type 0 where
  page : X → List ℕ → ℕ → Page X
  refused : FaultNumbers → PageFault → Page X

-- a page whose next record, at this line, is due: how it goes on with the record's value
abbrev pub onward : {X Y : Type 0} → ℕ → Got X → (X → Page Y) → Page Y
onward line (got x) next = next x
onward line gone next = refused (numbers 3 8 line 0) (Missing line)
onward line (bad w e) next = refused w (Record e)

-- a page that the text must end with, by what follows it
abbrev pub closed : {X : Type 0} → X → List ℕ → ℕ → Got (List ℕ) → Page X
closed x xs line gone = page x xs line
closed x xs line (got bs) = refused (numbers 3 8 line 0) (Surplus line)
closed x xs line (bad w e) = refused w (Record e)

-- the same of what a page reads as
abbrev pub ended : {X : Type 0} → Page X → Page X
ended (page x xs line) = closed x xs line (anything xs line)
ended (refused w e) = refused w e

-- the end of a text, as a page of nothing
abbrev pub ending : List ℕ → ℕ → Page (Unit {0})
ending xs line = closed (tt {0}) xs line (anything xs line)

-- a call that reads a page, and answers what holds its value, after which the text goes on with `rest` at `line`; or a fault
abbrev pub ReadsPage : {X C : Type 0} → (X → C → Type 0) → Page X → List ℕ → ℕ → Result C PageFault → Type 0
ReadsPage {X} Holds p rest line (Ok c) = (x : X) × (p ≡ page x rest line) × Holds x c
ReadsPage Holds p rest line (Err e) = p ≡ refused (page_numbers e) e

-- a call that fills something with the value of a page and answers something of it, after which the text goes on with `rest` at `line`; or a fault, and it is as it was
abbrev pub Fills : {X C A : Type 0} → (X → C → A → Type 0) → Page X → List ℕ → ℕ → C → C → Result A PageFault → Type 0
Fills {X} Holds p rest line before after (Ok a) = (x : X) × (p ≡ page x rest line) × Holds x after a
Fills Holds p rest line before after (Err e) = (p ≡ refused (page_numbers e) e) × (after ≡ before)
