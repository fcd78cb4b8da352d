-- What a call answers and leaves: the first check that stands against it, in their order, or that it was done.
use Rattle.std.specs.Prelude.{◌≡◌, ℕ, ◌+◌, ◌*◌, ◌^◌, ◌<◌, ◌≤◌, true, false, cond, ◌⊎◌, List, [], ◌∷◌, length}
use Rattle.functions.specs.Functions.{Fn, negated, exchanged}
use Rattle.functions.specs.Classes.{columns, classes}
use Rattle.intake.specs.Networks.{input_bits}
use Rattle.mapping.specs.declared.call.Call.{Call}
use Rattle.mapping.specs.declared.call.Call.TheVariants.{Swap, Split, Close, Pin, Write}
use Rattle.mapping.specs.declared.refusal.Refusal.{Refusal}
use Rattle.mapping.specs.declared.refusal.Refusal.TheVariants.{Closed, OutOfRange, TooManyClasses, TooWide, StillOpen, DoesNotFit, SplitDoesNotFit, TooManyCells, TooShort}
use Rattle.mapping.specs.declared.answer.Answer.{Answer}
use Rattle.mapping.specs.declared.answer.Answer.TheVariants.{Done, Divided, Shows, Wrote, Refused}
use Rattle.mapping.specs.Calls.{is_done}
use Rattle.mapping.specs.States.{State, pin, swapped_state, coded, split_state, closed_state}

-- a check: what stands against a call, and the refusal that it gives
pub record Check : Type 1 where
  pub against : Type 0
  pub says : Refusal

infix 3 ◌gives◌
-- the check that gives a refusal where p holds
abbrev pub ◌gives◌ : Type 0 → Refusal → Check
p gives r = record { against = p; says = r }

-- the first check that stands against the call gives the answer; where none does, it is the good one
abbrev pub Ordered : List Check → Answer → Answer → Type 0
Ordered [] good a = a ≡ good
Ordered (c ∷ cs) good a = (c.against × (a ≡ Refused c.says)) ⊎ ((c.against → ⊥) × Ordered cs good a)

-- the numbers of a split, where m signals are live and a cell has K pins: 1 ≤ b ≤ K, b ≤ m and j < b
pub record Ranged (K m b j : ℕ) : Type 0 where
  pub some : 1 ≤ b
  pub pinned : b ≤ K
  pub bound : b ≤ m
  pub fewer : j < b

-- how many bytes the page of a network takes, where it has k cells, each of K pins and so many configuration bytes
abbrev pub page_bytes : ℕ → ℕ → ℕ → ℕ
page_bytes K config k = 11 + k * (2 * (K + config + 2) + 1)

-- code: the rule's codes; K and config: the family's pins and configuration bytes; fits: what fits the chart that was opened
module _ (code : ℕ → ℕ → ℕ) (K config : ℕ) (fits : Fn → Type 0) where
  -- the checks of a call, in order
  abbrev pub checks : State → Call → List Check
  checks s (Swap p) =
      (s.closed ≡ true gives Closed)
      ∷ (length s.live ≤ p + 1 gives OutOfRange)
      ∷ ((fits (negated (exchanged p s.left)) → ⊥) gives DoesNotFit)
      ∷ []
  checks s (Split b j room) =
      (s.closed ≡ true gives Closed)
      ∷ ((Ranged K (length s.live) b j → ⊥) gives OutOfRange)
      ∷ (room < 2 ^ b gives TooShort)
      ∷ (2 ^ j < length (classes (columns b s.left)) gives TooManyClasses (length (classes (columns b s.left))))
      ∷ (47 < length s.cells + j gives TooManyCells (length (classes (columns b s.left))))
      ∷ ((fits (negated (coded code b j s.left)) → ⊥) gives SplitDoesNotFit (length (classes (columns b s.left))))
      ∷ []
  checks s Close =
      (s.closed ≡ true gives Closed)
      ∷ (K < length s.live gives TooWide)
      ∷ []
  checks s (Pin x) = []
  checks s (Write room) =
      (s.closed ≡ false gives StillOpen)
      ∷ (room < page_bytes K config (length s.cells) gives TooShort)
      ∷ []

  -- the answer where no check stands against the call
  abbrev pub good : State → Call → Answer
  good s (Swap p) = Done
  good s (Split b j room) = Divided (length (classes (columns b s.left))) (length s.cells + j)
  good s Close = Done
  good s (Pin x) = Shows (pin s (input_bits x))
  good s (Write room) = Wrote (page_bytes K config (length s.cells))

  -- the state that a call which is done leaves
  abbrev pub next : State → Call → State
  next s (Swap p) = swapped_state p s
  next s (Split b j room) = split_state code b j s
  next s Close = closed_state s
  next s (Pin x) = s
  next s (Write room) = s

  -- a call on the state s answers a and leaves t: a refused one leaves s
  pub record Answers (s : State) (c : Call) (a : Answer) (t : State) : Type 0 where
    pub says : Ordered (checks s c) (good s c) a
    pub leaves : t ≡ cond (is_done a) (next s c) s
