-- The nodes of a recoded diagram, not yet reduced: those below the first b variables, and new ones over the leaves.
use Rattle.std.specs.Prelude.{◌≡◌, ℕ, ◌+◌, ◌-◌, ◌<◌, ◌≤◌, List, length, slice_index}
use Rattle.functions.specs.Functions.{Fn, rows}
use Rattle.nodes.specs.declared.node.Node.{Node}
use Rattle.nodes.specs.Diagrams.{node, blank, at, mean, level, Ordered}

-- the node for the node n once j variables stand in the place of the first b
pub data Shift (xs : List Node) (b j n : ℕ) (y : Node) : Type 0 where
  kept : b ≤ (at xs n).var → y ≡ node ((at xs n).var - b + j) (at xs n).low (at xs n).high → Shift xs b j n y
  gone : (at xs n).var < b → y ≡ blank → Shift xs b j n y

-- ys has the node of each node of xs with a number below top
abbrev pub Shifts : List Node → ℕ → ℕ → ℕ → List Node → Type 0
Shifts xs b j top ys = (n : ℕ) → 2 ≤ n → n < top → Shift xs b j n (at ys n)

-- the function of i variables that choose among what the leaves mean, below the first j variables
abbrev pub chosen : List Node → ℕ → ℕ → List ℕ → ℕ → Fn
chosen xs m j leaves i = rows i (λ q. mean xs (m - j) j (slice_index leaves q))

-- leaves among the first c nodes, none of which tests one of the first j variables
pub record Leaves (xs : List Node) (c m j : ℕ) (leaves : List ℕ) : Type 0 where
  pub ordered : Ordered m xs c
  pub arity : j ≤ m
  pub there_are : (q : ℕ) → q < length leaves → slice_index leaves q < c + 2
  pub later : (q : ℕ) → q < length leaves → j ≤ level m xs (slice_index leaves q)

-- the first c nodes of xs became the first e of ys, by nodes with the variables from v to j over the leaves; r is their top
pub record Topped (xs : List Node) (c : ℕ) (ys : List Node) (e m j : ℕ) (leaves : List ℕ) (v r : ℕ) : Type 0 where
  pub ordered : Ordered m ys e
  pub agree : (n : ℕ) → 2 ≤ n → n < c + 2 → at ys n ≡ at xs n
  pub more : c ≤ e
  pub few : e + 1 ≤ c + length leaves
  pub there_is : r < e + 2
  pub later : v ≤ level m ys r
  pub means : mean ys (m - v) v r ≡ chosen xs m j leaves (j - v)
