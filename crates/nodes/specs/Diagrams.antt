-- Diagrams of nodes. The numbers 0 and 1 are the ends; the nodes count from 2.
use Rattle.std.specs.Prelude.{◌≡◌, ℕ, zero, suc, ◌+◌, ◌-◌, ◌<◌, ◌≤◌, Bool, true, false, cond, ◌&&◌, List, ◌==◌, ◌≢◌, nat_lt, slice_index_or}
use Rattle.functions.specs.Functions.{Fn, bit, fork}
use Rattle.nodes.specs.declared.node.Node.{Node}

-- the node of these parts
abbrev pub node : ℕ → ℕ → ℕ → Node
node v l h = record { var = v; low = l; high = h }

-- what a list has in the place of a node that it lacks
abbrev pub blank : Node
blank = node 0 0 0

-- the node with the number n
abbrev pub at : List Node → ℕ → Node
at xs n = slice_index_or xs (n - 2) blank

-- the child of a node where its variable has the value v
abbrev pub child : Bool → Node → ℕ
child false y = y.low
child true y = y.high

-- whether n is a node with the variable d
abbrev pub tests : List Node → ℕ → ℕ → Bool
tests xs d n = nat_lt 1 n && (at xs n).var == d

-- where the value v of the variable d leads from n
abbrev pub down : Bool → List Node → ℕ → ℕ → ℕ
down v xs d n = cond (tests xs d n) (child v (at xs n)) n

-- the function of the k variables from d on that n means
unfoldable pub mean : List Node → ℕ → ℕ → ℕ → Fn
mean xs zero d n = bit (n == 1)
mean xs (suc k) d n = fork (mean xs k (suc d) (down false xs d n)) (mean xs k (suc d) (down true xs d n))

-- the variable of n; that of an end comes after all m
abbrev pub level : ℕ → List Node → ℕ → ℕ
level m xs n = cond (nat_lt n 2) m (at xs n).var

-- the node n has one of m variables, and children with smaller numbers and greater variables
abbrev pub Placed : ℕ → List Node → ℕ → Type 0
Placed m xs n =
    ((at xs n).var < m)
    × ((at xs n).low < n)
    × ((at xs n).high < n)
    × ((at xs n).var < level m xs (at xs n).low)
    × ((at xs n).var < level m xs (at xs n).high)

-- the first c nodes are ordered
abbrev pub Ordered : ℕ → List Node → ℕ → Type 0
Ordered m xs c = (n : ℕ) → 2 ≤ n → n < c + 2 → Placed m xs n

-- none of the first c nodes has equal children
abbrev pub Proper : List Node → ℕ → Type 0
Proper xs c = (n : ℕ) → 2 ≤ n → n < c + 2 → (at xs n).low ≢ (at xs n).high

-- n is the number of one of the first c nodes
abbrev pub Inner : ℕ → ℕ → Type 0
Inner c n = (2 ≤ n) × (n < c + 2)

-- none of the first c nodes is there twice
abbrev pub Single : List Node → ℕ → Type 0
Single xs c = (a b : ℕ) → Inner c a × Inner c b × (at xs a ≡ at xs b) → a ≡ b

-- the first c nodes are reduced
abbrev pub Reduced : List Node → ℕ → Type 0
Reduced xs c = Proper xs c × Single xs c

-- n is come to from the root, child by child
pub data Reach (xs : List Node) (root : ℕ) : ℕ → Type 0 where
  start : Reach xs root root
  to_low : {p : ℕ} → 2 ≤ p → Reach xs root p → Reach xs root (at xs p).low
  to_high : {p : ℕ} → 2 ≤ p → Reach xs root p → Reach xs root (at xs p).high

-- each of the first c nodes is come to from the root
abbrev pub Reached : List Node → ℕ → ℕ → Type 0
Reached xs c root = (n : ℕ) → 2 ≤ n → n < c + 2 → ∥ Reach xs root n ∥₁

-- the first c nodes are the reduced ordered diagram of a function of m variables
pub record Diagram (m : ℕ) (xs : List Node) (c root : ℕ) : Type 0 where
  pub ordered : Ordered m xs c
  pub reduced : Reduced xs c
  pub rooted : root < c + 2
  pub reached : Reached xs c root
