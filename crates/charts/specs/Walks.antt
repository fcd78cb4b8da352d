-- A chart's function, and the places that steps from its root lead to.
use Rattle.std.specs.Prelude.{ℕ, ◌+◌, ◌-◌, Bool, List, [], ◌∷◌}
use Rattle.functions.specs.Words.{bits}
use Rattle.functions.specs.Functions.{Fn, Arity}
use Rattle.charts.specs.Changes.{whole}
use Rattle.charts.specs.declared.chart.Chart as chart

-- the function that a chart means
abbrev pub chart_function : {C P : Type 0} → chart.Ghosts C P → C → Fn
chart_function ch c = whole ch.column ch.root c

-- the column of a place at a depth is a function of the arguments that are left
abbrev pub ColumnArities : {C P : Type 0} → chart.Ghosts C P → Type 0
ColumnArities {C = C} {P = P} ch = (c : C) (d : ℕ) (p : P) → Arity (ch.arity c - d) (ch.column c d p)

-- the place that a word of bits leads to, from the place p at depth d
abbrev pub led : {P : Type 0} → (ℕ → P → Bool → P) → ℕ → P → List Bool → P
led next d p [] = p
led next d p (x ∷ xs) = led next (d + 1) (next d p x) xs

-- the place that the assignment number a of the first b arguments leads to
abbrev pub reached : {C P : Type 0} → chart.Ghosts C P → C → ℕ → ℕ → P
reached ch c b a = led (ch.next c) 0 (ch.root c) (bits b a)
