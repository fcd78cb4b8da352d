-- Marks on the numbers that are come to from a root, and new numbers for these.
use Rattle.std.specs.Prelude.{◌≡◌, ℕ, ◌+◌, ◌<◌, ◌≤◌, Bool, true, false, ◌⊎◌, List, length, slice_index, slice_index_or}
use Rattle.nodes.specs.declared.node.Node.{Node}
use Rattle.nodes.specs.Diagrams.{node, at, Reach}

-- n is marked
abbrev pub Marked : List Bool → ℕ → Type 0
Marked marks n = slice_index_or marks n false ≡ true

-- the children of y were marked, and nothing else
pub record Spread (old new : List Bool) (y : Node) : Type 0 where
  pub kept : (n : ℕ) → Marked old n → Marked new n
  pub only : (n : ℕ) → Marked new n → Marked old n ⊎ ((n ≡ y.low) ⊎ (n ≡ y.high))
  pub low : Marked new y.low
  pub high : Marked new y.high

-- the root is marked, only what is come to from it, and the children of each marked node with a number of at least `from`
pub record Marks (xs : List Node) (root from : ℕ) (marks : List Bool) : Type 0 where
  pub top : Marked marks root
  pub sound : (n : ℕ) → Marked marks n → Reach xs root n
  pub closed : (n : ℕ) → from ≤ n → 2 ≤ n → n < length xs + 2 → Marked marks n → Marked marks (at xs n).low × Marked marks (at xs n).high

-- the node with the new numbers of its children
abbrev pub renamed : Node → List ℕ → Node
renamed y new = node y.var (slice_index new y.low) (slice_index new y.high)
