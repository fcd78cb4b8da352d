-- Decompositions of a function at its first arguments.
use Rattle.std.specs.Prelude.{◌≡◌, ℕ, ◌-◌, ◌^◌, ◌≤◌, Bool, ◌↔◌, List, ◌++◌, map, length}
use Rattle.functions.specs.Functions.{Fn, Arity, value}
use Rattle.functions.specs.Classes.{columns, classes}

-- j functions of the first b of f's m arguments, and one function of their values and of the other arguments, that compose to f
pub record Decomposes (m b j : ℕ) (f : Fn) : Type 0 where
  pub inner : List (List Bool → Bool)
  pub many : length inner ≡ j
  pub outer : List Bool → Bool
  pub composed : (xs ys : List Bool) → length xs ≡ b → length ys ≡ m - b → value f (xs ++ ys) ≡ outer (map (λ g. g xs) inner ++ ys)

-- a function decomposes exactly when it has no more classes than j bits have codes
abbrev pub DecompositionTheorem : Type 0
DecompositionTheorem = (m b j : ℕ) (f : Fn) → Arity m f → b ≤ m → Decomposes m b j f ↔ (length (classes (columns b f)) ≤ 2 ^ j)
