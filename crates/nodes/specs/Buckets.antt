-- The index of nodes by hash: each bucket's nodes are linked from its last one back.
use Rattle.std.specs.Prelude.{◌≡◌, ℕ, ◌+◌, ◌-◌, ◌*◌, ◌%◌, ◌<◌, ◌≤◌, List, Option, None, Some, slice_index_or, unwrap_or}
use Rattle.nodes.specs.declared.node.Node.{Node}
use Rattle.nodes.specs.Diagrams.{at}

-- the bucket of a node
abbrev pub hash : Node → ℕ
hash n = (n.low * 31 + n.high * 5 + n.var) % 1024

-- the head of a bucket
abbrev pub head : List (Option ℕ) → ℕ → Option ℕ
head heads b = slice_index_or heads b None

-- the link of the node n
abbrev pub link : List (Option ℕ) → ℕ → Option ℕ
link nexts n = slice_index_or nexts (n - 2) None

-- a bucket's head is its last node, and a link the last one before it in the bucket
pub record Indexed (xs : List Node) (heads nexts : List (Option ℕ)) (c : ℕ) : Type 0 where
  pub head_all : (n : ℕ) → 2 ≤ n → n < c + 2 → n ≤ unwrap_or (head heads (hash (at xs n))) 0
  pub head_of : (b n : ℕ) → head heads b ≡ Some n → (2 ≤ n) × (n < c + 2) × (hash (at xs n) ≡ b)
  pub next_all : (n a : ℕ) → 2 ≤ a → a < n → n < c + 2 → hash (at xs a) ≡ hash (at xs n) → a ≤ unwrap_or (link nexts n) 0
  pub next_of : (n l : ℕ) → 2 ≤ n → n < c + 2 → link nexts n ≡ Some l → (2 ≤ l) × (l < n) × (hash (at xs l) ≡ hash (at xs n))
