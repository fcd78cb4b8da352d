-- The size of a function, from the function alone.
use Rattle.std.specs.Prelude.{ℕ, ◌≤◌, cond, List, [], ◌∷◌, ◌++◌, length}
use Rattle.functions.specs.Functions.{Fn, bit, fork}
use Rattle.functions.specs.Classes.{same_fn, classes}
use Rattle.charts.specs.BitCharts.{AtMost}

-- the functions that are left once some first arguments are fixed, and that depend on the next one
unfoldable pub parts : Fn → List Fn
parts (bit b) = []
parts (fork z o) = cond (same_fn z o) (parts z ++ parts o) (fork z o ∷ (parts z ++ parts o))

-- the size of a function: how many different ones these are
abbrev pub size : Fn → ℕ
size f = length (classes (parts f))

-- f has at most 16 arguments and a size of at most 1,024
abbrev pub Small : Fn → Type 0
Small f = AtMost 16 f × (size f ≤ 1024)
