-- What a bit chart means, and what fits it.
use Rattle.std.specs.Prelude.{◌≡◌, ℕ, ◌^◌, ◌≤◌, Bool, false, List, length, Some, None, Option, slice_index_or}
use Rattle.functions.specs.Functions.{Fn, Arity, tree}
use Rattle.charts.specs.Stretches.{stretch_column, all_of}
use Rattle.charts.specs.declared.bit_chart.BitChart.{BitChart}

-- f has at most n arguments
pub record AtMost (n : ℕ) (f : Fn) : Type 0 where
  pub count : ℕ
  pub within : count ≤ n
  pub arity : Arity count f

-- the function that a bit chart means: the column of its root
abbrev pub bit_function : BitChart → Fn
bit_function c = stretch_column c.count c.table 0 (all_of c.count)

-- what is known of the function of a bit chart
pub record BitFunctionLaws : Type 0 where
  -- the table has its value at each assignment
  pub entries : (c : BitChart) → bit_function c ≡ tree c.count (λ i. slice_index_or c.table i false)
  -- it has the chart's number of arguments
  pub arity : (c : BitChart) → Arity c.count (bit_function c)
  -- and fits
  pub fits : (c : BitChart) → AtMost 12 (bit_function c)

-- entries for a function of n arguments, at most 12
pub record Loadable (n : ℕ) (entries : List Bool) : Type 0 where
  pub small : n ≤ 12
  pub whole : length entries ≡ 2 ^ n

-- the chart of the function with these entries, if there is one
abbrev pub Loaded : ℕ → List Bool → Option BitChart → Type 0
Loaded n entries None = Loadable n entries → ⊥
Loaded n entries (Some c) = Loadable n entries × (bit_function c ≡ tree n (λ i. slice_index_or entries i false))
