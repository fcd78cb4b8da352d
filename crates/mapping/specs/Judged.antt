-- What the history of a design demands of each answer: in terms of the opened function, the rule and the calls so far, and of no design.
use Rattle.std.specs.Prelude.{◌≡◌, ℕ, suc, ◌+◌, ◌^◌, ◌<◌, ◌≤◌, true, false, List, [], ◌∷◌, ◌++◌, length, take}
use Rattle.functions.specs.Functions.{Fn, bit, fork, value, exchanged}
use Rattle.functions.specs.Classes.{columns, classes}
use Rattle.functions.specs.Decompositions.{Decomposes}
use Rattle.intake.specs.Networks.{input_bits}
use Rattle.mapping.specs.declared.call.Call.{Call}
use Rattle.mapping.specs.declared.call.Call.TheVariants.{Swap, Split, Close, Pin, Write}
use Rattle.mapping.specs.declared.refusal.Refusal.TheVariants.{Closed, OutOfRange, TooManyClasses, TooWide, StillOpen, DoesNotFit, SplitDoesNotFit, TooManyCells, TooShort}
use Rattle.mapping.specs.declared.answer.Answer.{Answer}
use Rattle.mapping.specs.declared.answer.Answer.TheVariants.{Done, Divided, Shows, Wrote}
use Rattle.mapping.specs.States.{coded}
use Rattle.mapping.specs.Answers.{Check, ◌gives◌, Ordered, Ranged, page_bytes}
use Rattle.mapping.specs.Histories.{Told, Event, events, reference, is_closed, cells_made}

-- how many arguments a function has
abbrev pub arity_of : Fn → ℕ
arity_of (bit b) = 0
arity_of (fork z o) = suc (arity_of z)

-- f: the opened function, of n arguments
module _ (code : ℕ → ℕ → ℕ) (K config : ℕ) (fits : Fn → Type 0) (n : ℕ) (f : Fn) where
  -- the checks of a call after the events es, where g is the reference function
  abbrev pub demands : List Event → Fn → Call → List Check
  demands es g (Swap p) =
      (is_closed es ≡ true gives Closed)
      ∷ (arity_of g ≤ p + 1 gives OutOfRange)
      ∷ ((fits (exchanged p g) → ⊥) gives DoesNotFit)
      ∷ []
  demands es g (Split b j room) =
      (is_closed es ≡ true gives Closed)
      ∷ ((Ranged K (arity_of g) b j → ⊥) gives OutOfRange)
      ∷ (room < 2 ^ b gives TooShort)
      ∷ ((Decomposes (arity_of g) b j g → ⊥) gives TooManyClasses (length (classes (columns b g))))
      ∷ (47 < cells_made es + j gives TooManyCells (length (classes (columns b g))))
      ∷ ((fits (coded code b j g) → ⊥) gives SplitDoesNotFit (length (classes (columns b g))))
      ∷ []
  demands es g Close =
      (is_closed es ≡ true gives Closed)
      ∷ (K < arity_of g gives TooWide)
      ∷ []
  demands es g (Pin x) = []
  demands es g (Write room) =
      (is_closed es ≡ false gives StillOpen)
      ∷ (room < page_bytes K config (cells_made es) gives TooShort)
      ∷ []

  -- the good answer
  abbrev pub due : List Event → Fn → Call → Answer
  due es g (Swap p) = Done
  due es g (Split b j room) = Divided (length (classes (columns b g))) (cells_made es + j)
  due es g Close = Done
  due es g (Pin x) = Shows (value f (take n (input_bits x)))
  due es g (Write room) = Wrote (page_bytes K config (cells_made es))

  -- an answer is the one that the events so far demand
  abbrev pub Judges : List Event → Call → Answer → Type 0
  Judges es c a = Ordered (demands es (reference code f es) c) (due es (reference code f es) c) a

  -- each answer of the second list is, after the first list and those before it
  abbrev pub Judged : List Told → List Told → Type 0
  Judged ts [] = Unit {0}
  Judged ts (u ∷ us) = Judges (events ts) u.call u.answer × Judged (ts ++ (u ∷ [])) us
