-- Lists of calls with their answers, and what follows from them: the reference function, the cells, whether the design is closed.
use Rattle.std.specs.Prelude.{ℕ, ◌+◌, Bool, true, false, cond, ◌||◌, List, [], ◌∷◌, map}
use Rattle.functions.specs.Functions.{Fn, exchanged}
use Rattle.mapping.specs.declared.call.Call.{Call}
use Rattle.mapping.specs.declared.call.Call.TheVariants.{Swap, Split, Close, Pin, Write}
use Rattle.mapping.specs.declared.answer.Answer.{Answer}
use Rattle.mapping.specs.Calls.{is_done}
use Rattle.mapping.specs.States.{coded}

-- a call and its answer
pub record Told : Type 0 where
  pub call : Call
  pub answer : Answer

-- the call c, answered by a
abbrev pub told : Call → Answer → Told
told c a = record { call = c; answer = a }

-- a call, and whether it was done
pub record Event : Type 0 where
  pub call : Call
  pub done : Bool

-- the call c, done or refused
abbrev pub event : Call → Bool → Event
event c b = record { call = c; done = b }

-- the calls, and whether each was done
abbrev pub events : List Told → List Event
events ts = map (λ t. event t.call (is_done t.answer)) ts

-- the reference function after a call: a swap exchanges its arguments, and a split puts a code of its own classes in the place of the first ones; all else leaves it
abbrev pub referred : (ℕ → ℕ → ℕ) → Fn → Call → Bool → Fn
referred code f (Swap p) true = exchanged p f
referred code f (Split b j room) true = coded code b j f
referred code f Close true = f
referred code f (Pin x) true = f
referred code f (Write room) true = f
referred code f c false = f

-- the reference function: from the opened function, the rule's codes, the calls and whether each was done
abbrev pub reference : (ℕ → ℕ → ℕ) → Fn → List Event → Fn
reference code f [] = f
reference code f (e ∷ es) = reference code (referred code f e.call e.done) es

-- does a call close the design, if it is done?
abbrev pub closes : Call → Bool
closes (Swap p) = false
closes (Split b j room) = false
closes Close = true
closes (Pin x) = false
closes (Write room) = false

-- did one of the calls close the design?
abbrev pub is_closed : List Event → Bool
is_closed [] = false
is_closed (e ∷ es) = cond e.done (closes e.call) false || is_closed es

-- how many cells a call makes, if it is done
abbrev pub makes : Call → ℕ
makes (Swap p) = 0
makes (Split b j room) = j
makes Close = 1
makes (Pin x) = 0
makes (Write room) = 0

-- how many cells the calls made
abbrev pub cells_made : List Event → ℕ
cells_made [] = 0
cells_made (e ∷ es) = cond e.done (makes e.call) 0 + cells_made es
