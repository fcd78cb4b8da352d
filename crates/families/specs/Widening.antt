-- A table on few pins as one on more.
use Rattle.std.specs.Prelude.{◌≡◌, ℕ, ◌+◌, ◌-◌, ◌/◌, ◌^◌, ◌<◌, ◌≤◌, min, Bool, false, List, ◌++◌, length}
use Rattle.families.specs.Tables.{entry_of, tabled, assignment}

-- a table on b pins as one on k, whose entry e is entry e / 2 ^ (k - b) of it; k counts as 5 at most, and b as k
abbrev pub widened_table : ℕ → ℕ → ℕ → ℕ
widened_table k b t = tabled (2 ^ min k 5) (λ e. entry_of t (e / 2 ^ (min k 5 - b)))

-- of tables on at most 5 pins
pub record WideningLaws : Type 0 where
  -- the entries of a widened table, and no others
  pub entries : (k b t e : ℕ) → k ≤ 5 → e < 2 ^ k → entry_of (widened_table k b t) e ≡ entry_of t (e / 2 ^ (k - b))
  pub rest : (k b t e : ℕ) → k ≤ 5 → 2 ^ k ≤ e → entry_of (widened_table k b t) e ≡ false
  -- the used pins xs come first, and the others, ys, do not matter
  pub assignments : (k t : ℕ) (xs ys : List Bool) → k ≤ 5 → length xs + length ys ≡ k →
      entry_of (widened_table k (length xs) t) (assignment (xs ++ ys)) ≡ entry_of t (assignment xs)
