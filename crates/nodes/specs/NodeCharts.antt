-- What the places of a node chart mean, and what a node chart takes on.
use Rattle.std.specs.Prelude.{◌≡◌, ℕ, ◌+◌, ◌-◌, ◌<◌, Bool, cond, ◌&&◌, ◌||◌, List, length, Result, MatchResult, nat_le, nat_lt}
use Rattle.functions.specs.Functions.{Fn}
use Rattle.rows.specs.Rows.{items}
use Rattle.nodes.specs.declared.node.Node.{Node}
use Rattle.nodes.specs.declared.node_chart.NodeChart.{NodeChart}
use Rattle.nodes.specs.Diagrams.{at, down, mean}
use Rattle.nodes.specs.Sizes.{size}

-- whether n is there at the depth d: an end at any depth, one of the c nodes as far as its variable
abbrev pub has : List Node → ℕ → ℕ → ℕ → Bool
has xs c d n = nat_lt n 2 || (nat_lt n (c + 2) && nat_le d (at xs n).var)

-- the number that n stands for at the depth d: the end 0 where n is not there
abbrev pub seen : List Node → ℕ → ℕ → ℕ → ℕ
seen xs c d n = cond (has xs c d n) n 0

-- the column of the place n at the depth d
abbrev pub place_column : NodeChart → ℕ → ℕ → Fn
place_column s d n = mean (items s.nodes) (s.arity - d) d (seen (items s.nodes) (length (items s.nodes)) d n)

-- the place that the value v of the argument at the depth d leads to
abbrev pub onward : NodeChart → ℕ → ℕ → Bool → ℕ
onward s d n v = cond (nat_lt d s.arity) (down v (items s.nodes) d (seen (items s.nodes) (length (items s.nodes)) d n)) n

-- the function that a node chart means
abbrev pub node_function : NodeChart → Fn
node_function s = mean (items s.nodes) s.arity 0 s.root

-- the chart of the function f of m arguments
pub record Drawn (m : ℕ) (f : Fn) (s : NodeChart) : Type 0 where
  pub counted : s.arity ≡ m
  pub meaning : node_function s ≡ f

-- the chart of the function f of m arguments, or none, if f's size is above 1,024
abbrev pub Draws : {E : Type 0} → ℕ → Fn → Result NodeChart E → Type 0
Draws m f r = MatchResult r (Drawn m f) (λ _. 1024 < size f)
