-- What the members of a chart owe one another.
use Rattle.std.specs.Prelude.{◌≡◌, ℕ, ◌+◌, ◌<◌, ◌≤◌, Bool, true, false}
use Rattle.functions.specs.Functions.{Fn, bit, fork}

-- of charts C with the places P: their number of arguments, the column of a place at a depth, and the next place
pub record Laws {C P : Type 0} (arity : C → ℕ) (column : C → ℕ → P → Fn) (next : C → ℕ → P → Bool → P) : Type 0 where
  -- there are at most 16 arguments
  pub small : (c : C) → arity c ≤ 16
  -- a column forks into those of the next places, as long as there is an argument left
  pub forks : (c : C) (d : ℕ) (p : P) → d < arity c → column c d p ≡ fork (column c (d + 1) (next c d p false)) (column c (d + 1) (next c d p true))
  -- then it is a bit
  pub ends : (c : C) (p : P) → (v : Bool) × (column c (arity c) p ≡ bit v)
  -- a greater depth counts as the number of arguments
  pub past : (c : C) (d : ℕ) (p : P) → arity c ≤ d → column c d p ≡ column c (arity c) p
  -- and no step leads on from there
  pub stays : (c : C) (d : ℕ) (p : P) (v : Bool) → arity c ≤ d → next c d p v ≡ p
