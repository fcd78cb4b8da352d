-- What the store of nodes answers.
use Rattle.std.specs.Prelude.{◌≡◌, ℕ, ◌+◌, ◌<◌, ◌≤◌, List, [], ◌∷◌, ◌++◌, length, ◌≢◌}
use Rattle.rows.specs.Rows.{items}
use Rattle.nodes.specs.declared.node.Node.{Node}
use Rattle.nodes.specs.declared.store.Store.{Store}
use Rattle.nodes.specs.Diagrams.{at}

-- none of the first c nodes is y
abbrev pub Absent : List Node → ℕ → Node → Type 0
Absent xs c y = (n : ℕ) → 2 ≤ n → n < c + 2 → at xs n ≢ y

-- the store s became t and answered n for the node y: its one child, a node that is there, or a new one
pub data Did (s t : Store) (y : Node) (n : ℕ) : Type 0 where
  dropped : t ≡ s → y.low ≡ y.high → n ≡ y.low → Did s t y n
  there : t ≡ s → (y.low ≢ y.high) → 2 ≤ n → n < length (items s.nodes) + 2 → at (items s.nodes) n ≡ y → Did s t y n
  pushed : length (items s.nodes) < 1024 →
      items t.nodes ≡ items s.nodes ++ (y ∷ []) →
      (y.low ≢ y.high) →
      Absent (items s.nodes) (length (items s.nodes)) y →
      n ≡ length (items s.nodes) + 2 →
      Did s t y n
