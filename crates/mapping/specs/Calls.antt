-- What refusals and answers tell, in numbers.
use Rattle.std.specs.Prelude.{ℕ, Bool, true, false}
use Rattle.mapping.specs.declared.refusal.Refusal.{Refusal}
use Rattle.mapping.specs.declared.refusal.Refusal.TheVariants.{Closed, OutOfRange, TooManyClasses, TooWide, StillOpen, DoesNotFit, SplitDoesNotFit, TooManyCells, TooShort}
use Rattle.mapping.specs.declared.answer.Answer.{Answer}
use Rattle.mapping.specs.declared.answer.Answer.TheVariants.{Done, Divided, Shows, Wrote, Refused}

-- the number of a refusal
abbrev pub refusal_number : Refusal → ℕ
refusal_number Closed = 10
refusal_number OutOfRange = 11
refusal_number (TooManyClasses k) = 12
refusal_number TooWide = 13
refusal_number StillOpen = 14
refusal_number DoesNotFit = 20
refusal_number (SplitDoesNotFit k) = 20
refusal_number (TooManyCells k) = 21
refusal_number TooShort = 22

-- the class count that a refusal tells: of a split that found too many classes, too few cells or no room in the chart
abbrev pub refusal_classes : Refusal → ℕ
refusal_classes Closed = 0
refusal_classes OutOfRange = 0
refusal_classes (TooManyClasses k) = k
refusal_classes TooWide = 0
refusal_classes StillOpen = 0
refusal_classes DoesNotFit = 0
refusal_classes (SplitDoesNotFit k) = k
refusal_classes (TooManyCells k) = k
refusal_classes TooShort = 0

-- whether a call was done, by its answer
abbrev pub is_done : Answer → Bool
is_done Done = true
is_done (Divided k c) = true
is_done (Shows b) = true
is_done (Wrote n) = true
is_done (Refused r) = false

-- the number of an answer: 0 for a call that was done
abbrev pub answer_number : Answer → ℕ
answer_number Done = 0
answer_number (Divided k c) = 0
answer_number (Shows b) = 0
answer_number (Wrote n) = 0
answer_number (Refused r) = refusal_number r

-- the class count that an answer tells
abbrev pub answer_classes : Answer → ℕ
answer_classes Done = 0
answer_classes (Divided k c) = k
answer_classes (Shows b) = 0
answer_classes (Wrote n) = 0
answer_classes (Refused r) = refusal_classes r
