-- The rule that counts.
use Rattle.std.specs.Prelude.{ℕ}
use Rattle.rules.specs.Codes.{limited}

-- the code of a class is its number
abbrev pub counting : ℕ → ℕ → ℕ
counting = limited (λ c. c)
