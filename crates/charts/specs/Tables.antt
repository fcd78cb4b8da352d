-- The entries of a table, and where the entries of a changed table come from.
use Rattle.std.specs.Prelude.{◌≡◌, ℕ, ◌+◌, ◌-◌, ◌*◌, ◌/◌, ◌%◌, ◌^◌, ◌<◌, Bool, false, cond, List, length, ◌==◌, slice_index, slice_index_or}
use Rattle.charts.specs.Stretches.{entry_of, nowhere}
use Rattle.charts.specs.declared.bit_chart.Stretch.{Stretch}

-- a table of 4096 entries, of which the first n are those of t
pub record Filled (n : ℕ) (t : ℕ → Bool) (table : List Bool) : Type 0 where
  pub long : length table ≡ 4096
  pub each : (i : ℕ) → i < n → slice_index_or table i false ≡ t i

-- of each four numbers, the second and the third change places
abbrev pub crossed : ℕ → ℕ
crossed x = cond (x % 4 == 1) (x + 1) (cond (x % 4 == 2) (x - 1) x)

-- of each four stretches of h entries, the second and the third
abbrev pub source_of : ℕ → ℕ → ℕ
source_of h i = crossed (i / h) * h + i % h

-- the entry i once the arguments of weight 2 ^ (k + 1) and 2 ^ k are exchanged
abbrev pub exchanged_entry : List Bool → ℕ → ℕ → Bool
exchanged_entry table k i = slice_index_or table (source_of (2 ^ k) i) false

-- the entry x of rows of k arguments, that of the code q being the place of its class
abbrev pub row_entry : ℕ → List Bool → ℕ → List Stretch → List ℕ → ℕ → Bool
row_entry m table k places class_of x = entry_of m table k (slice_index_or places (slice_index class_of (x / 2 ^ k)) nowhere) (x % 2 ^ k)
