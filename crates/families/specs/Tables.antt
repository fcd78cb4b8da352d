-- Tables of cells, as words.
use Rattle.std.specs.Prelude.{◌≡◌, ℕ, zero, suc, ◌+◌, ◌/◌, ◌%◌, ◌^◌, ◌<◌, Bool, true, false, cond, List, [], ◌∷◌, length, ◌==◌}

-- a table is a word of 32 bits, of which a cell with K pins takes the first 2 ^ K entries
abbrev pub Table : ℕ → Type 0
Table t = t < 2 ^ 32

-- entry e: the bit of weight 2 ^ e
abbrev pub entry_of : ℕ → ℕ → Bool
entry_of t e = t / 2 ^ e % 2 == 1

-- the table whose first n entries are these, and whose others are 0
abbrev pub tabled : ℕ → (ℕ → Bool) → ℕ
tabled zero row = 0
tabled (suc n) row = tabled n row + cond (row n) (2 ^ n) 0

-- the table of n entries that the relation gives, each by its number
abbrev pub Tabulated : (ℕ → Bool → Type 0) → ℕ → ℕ → Type 0
Tabulated gives zero t = t ≡ 0
Tabulated gives (suc n) t = (s : ℕ) × (b : Bool) × Tabulated gives n s × gives n b × (t ≡ s + cond b (2 ^ n) 0)

-- the number of an assignment to pins, the first pin most significant
abbrev pub assignment : List Bool → ℕ
assignment [] = 0
assignment (false ∷ xs) = assignment xs
assignment (true ∷ xs) = 2 ^ length xs + assignment xs
