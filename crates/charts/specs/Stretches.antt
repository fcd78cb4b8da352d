-- What a stretch of a table means at a depth, and where a step leads from it.
use Rattle.std.specs.Prelude.{ℕ, ◌+◌, ◌-◌, ◌^◌, Bool, false, cond, ◌&&◌, List, ◌==◌, nat_le, nat_lt, slice_index_or}
use Rattle.functions.specs.Functions.{Fn, tree}
use Rattle.charts.specs.declared.bit_chart.Stretch.{Stretch}

-- whether a table of m arguments has the stretch as one of k arguments
abbrev pub there : ℕ → ℕ → Stretch → Bool
there m k p = p.len == 2 ^ k && nat_le (p.start + p.len) (2 ^ m)

-- the entry i of a stretch of k arguments: 0 where the table lacks the stretch
abbrev pub entry_of : ℕ → List Bool → ℕ → Stretch → ℕ → Bool
entry_of m table k p i = cond (there m k p) (slice_index_or table (p.start + i) false) false

-- the column of a stretch at a depth
abbrev pub stretch_column : ℕ → List Bool → ℕ → Stretch → Fn
stretch_column m table d p = tree (m - d) (entry_of m table (m - d) p)

-- the stretch of the whole table
abbrev pub all_of : ℕ → Stretch
all_of m = record { start = 0; len = 2 ^ m }

-- a stretch that no table has
abbrev pub nowhere : Stretch
nowhere = record { start = 0; len = 0 }

-- the first or the second half, of h entries
abbrev pub half_of : ℕ → Stretch → Bool → Stretch
half_of h p v = record { start = cond v (p.start + h) p.start; len = h }

-- where the value v of the argument at the depth d leads
abbrev pub onward : ℕ → ℕ → Stretch → Bool → Stretch
onward m d p v = cond (nat_lt d m) (cond (there m (m - d) p) (half_of (2 ^ (m - (d + 1))) p v) nowhere) p
