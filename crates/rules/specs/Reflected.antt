-- The rule of the reflected binary code.
use Rattle.std.specs.Prelude.{ℕ, List, [], ◌∷◌, slice_index}
use Rattle.rules.specs.Codes.{limited}

-- the codes of the classes 0 to 15
abbrev pub reflected_codes : List ℕ
reflected_codes = 0 ∷ 1 ∷ 3 ∷ 2 ∷ 6 ∷ 7 ∷ 5 ∷ 4 ∷ 12 ∷ 13 ∷ 15 ∷ 14 ∷ 10 ∷ 11 ∷ 9 ∷ 8 ∷ []

-- the code of a class is its entry
abbrev pub reflected : ℕ → ℕ → ℕ
reflected = limited (λ c. slice_index reflected_codes c)
