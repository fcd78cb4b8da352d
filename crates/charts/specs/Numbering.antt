-- The numbering of the classes of a function's columns, in a strip of places.
use Rattle.std.specs.Prelude.{◌≡◌, ℕ, ◌^◌, ◌<◌, ◌≤◌, List, map, length, take, Some, None, Option, slice_index_or}
use Rattle.functions.specs.Functions.{Fn}
use Rattle.functions.specs.Classes.{columns, classes, first_of}
use Rattle.charts.specs.Walks.{chart_function, reached}
use Rattle.charts.specs.ClassLists.{first_places, laid}
use Rattle.charts.specs.declared.chart.Chart as chart

-- a function of m arguments has columns at its first b, and the strip an entry for each
pub record Numberable (m b entries : ℕ) : Type 0 where
  pub bound : b ≤ m
  pub room : 2 ^ b ≤ entries

-- the n classes of f's columns at its first b arguments, by places: `mean` is a place's column, and `at` the place of a bound assignment's number
pub record Numbered {P : Type 0} (mean : P → Fn) (at : ℕ → P) (b : ℕ) (f : Fn) (before after : List P) (n : ℕ) : Type 0 where
  pub count : n ≡ length (classes (columns b f))
  -- the strip begins with the first place of each class, and goes on as it was
  pub strip : after ≡ laid (first_places mean at (2 ^ b)) before
  -- the place of the class c is that of its first bound assignment
  pub first : (c : ℕ) (d : P) → c < n → slice_index_or after c d ≡ at (first_of b f c)
  -- and means its column
  pub means : map mean (take n after) ≡ classes (columns b f)

-- the classes of a chart's function are numbered, or the strip stays as it was
abbrev pub Numbers : {C P : Type 0} → chart.Ghosts C P → C → ℕ → List P → List P → Option ℕ → Type 0
Numbers ch c b before after None = (after ≡ before) × (Numberable (ch.arity c) b (length before) → ⊥)
Numbers ch c b before after (Some n) =
    Numberable (ch.arity c) b (length before) × Numbered (ch.column c b) (reached ch c b) b (chart_function ch c) before after n
