-- What every list of calls keeps of the opened function.
use Rattle.std.specs.Prelude.{◌≡◌, ℕ, ◌^◌, ◌<◌, ◌≤◌, Bool, ◌↔◌, List, [], ◌∷◌, ◌++◌, map, length, take, replicate}
use Rattle.functions.specs.Functions.{Fn, Arity, value, negated}
use Rattle.functions.specs.Classes.{columns, classes}
use Rattle.functions.specs.Decompositions.{Decomposes}
use Rattle.families.specs.Widening.{widened_table}
use Rattle.intake.specs.Networks.{NetCell, Network, WellFormed, network_pin}
use Rattle.mapping.specs.declared.call.Call.{Call}
use Rattle.mapping.specs.declared.answer.Answer.{Answer}
use Rattle.mapping.specs.States.{Cell, State, pin, opened}
use Rattle.mapping.specs.Answers.{Answers}
use Rattle.mapping.specs.Histories.{Told, told, Event, reference}

-- the states that calls with their answers lead to, from the state in which a function f of n arguments was opened
pub data Reaches (code : ℕ → ℕ → ℕ) (K config : ℕ) (fits : Fn → Type 0) (n : ℕ) (f : Fn) : List Told → State → Type 0 where
  none : Reaches code K config fits n f [] (opened n f)
  more : {ts : List Told} {s t : State} (c : Call) (a : Answer) → Reaches code K config fits n f ts s → Answers code K config fits s c a t → Reaches code K config fits n f (ts ++ (told c a ∷ [])) t

-- a cell as a family configures it: its pins, then unused ones up to K, and the packed table
abbrev pub configured : ℕ → (ℕ → List ℕ) → Cell → NetCell
configured K packed c = record {
  pins = take K (c.pins ++ replicate K 255);
  config = packed (widened_table K (length c.pins) c.table);
}

-- the network of a design with n inputs
abbrev pub network_of : ℕ → (ℕ → List ℕ) → ℕ → State → Network
network_of K packed n s = record { inputs = n; cells = map (configured K packed) s.cells }

-- what a state keeps of the events es that led to it from f, a function of n arguments
pub record Keeps (code : ℕ → ℕ → ℕ) (n : ℕ) (f : Fn) (es : List Event) (s : State) : Type 0 where
  -- the pin is the opened function at every assignment
  pub pins : (vs : List Bool) → length vs ≡ 16 → pin s vs ≡ value f (take n vs)
  -- the function left is the negation of the reference function, which has as many arguments as signals are live
  pub left : s.left ≡ negated (reference code f es)
  pub arity : Arity (length s.live) (reference code f es)
  -- there are too many classes exactly where the reference function has no decomposition
  pub classed : (b j : ℕ) → b ≤ length s.live → (2 ^ j < length (classes (columns b s.left))) ↔ (Decomposes (length s.live) b j (reference code f es) → ⊥)

-- what a closed state keeps: its network can be carried by a page, and has the opened function as its pin
pub record Networked (K config : ℕ) (packed : ℕ → List ℕ) (bit_at : List ℕ → ℕ → Bool) (n : ℕ) (f : Fn) (s : State) : Type 0 where
  pub formed : WellFormed K config (network_of K packed n s)
  pub pins : (vs : List Bool) → length vs ≡ 16 → network_pin bit_at (network_of K packed n s) vs ≡ value f (take n vs)
