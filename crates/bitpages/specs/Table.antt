-- How the table of a Boolean function lies in bytes.
use Rattle.std.specs.Prelude.{◌≡◌, ℕ, zero, suc, ◌-◌, ◌/◌, ◌%◌, ◌^◌, ◌≤◌, min, Bool, ◌&&◌, ◌||◌, List, [], ◌∷◌, map, reverse, length, take, drop, ◌==◌, nat_le, slice_index}
use Rattle.std.specs.List.{range_with_len}
use Rattle.functions.specs.Functions.{Fn, tree}
use Rattle.functions.specs.Words.{number}

-- es is a table of n arguments: n is 1 to 12, and there is an entry for each assignment
abbrev pub Table : ℕ → List Bool → Type 0
Table n es = (1 ≤ n) × (n ≤ 12) × (length es ≡ 2 ^ n)

-- how many bytes hold a table of n arguments: eight entries a byte, and at least one byte
abbrev pub size : ℕ → ℕ
size n = 2 ^ (n - 3)

-- how many of them a frame carries: 16, or all where there are fewer
abbrev pub share : ℕ → ℕ
share n = min 16 (size n)

-- how many frames carry them
abbrev pub count : ℕ → ℕ
count n = size n / share n

-- bit k of a byte, counted from the lowest
abbrev pub bit_at : ℕ → ℕ → Bool
bit_at b k = b / 2 ^ k % 2 == 1

-- entry i of bytes, which hold eight each
abbrev pub entry_at : List ℕ → ℕ → Bool
entry_at ds i = bit_at (slice_index ds (i / 8)) (i % 8)

-- the entries of n arguments that bytes hold
abbrev pub entries : ℕ → List ℕ → List Bool
entries n ds = map (entry_at ds) (range_with_len 0 (2 ^ n))

-- the function of n arguments that bytes mean: entry i is its value at the assignment with the number i
abbrev pub meant : ℕ → List ℕ → Fn
meant n ds = tree n (entry_at ds)

-- is a bit of the first byte set past the 2 entries of 1 argument, or past the 4 of 2 arguments?
abbrev pub spare : ℕ → ℕ → Bool
spare n b = (n == 1 && nat_le 4 b) || (n == 2 && nat_le 16 b)

-- the first k parts of a list, of s elements each
abbrev pub parts : {X : Type 0} → ℕ → ℕ → List X → List (List X)
parts s zero xs = []
parts s (suc k) xs = take s xs ∷ parts s k (drop s xs)

-- the byte of at most eight entries, the first its lowest bit
abbrev pub byte_of : List Bool → ℕ
byte_of es = number (reverse es)

-- the bytes that hold a table of n arguments
abbrev pub table_bytes : ℕ → List Bool → List ℕ
table_bytes n es = map byte_of (parts 8 (size n) es)
