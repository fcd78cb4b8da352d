-- The nodes of a diagram with the variables p and p + 1 exchanged, three for each node, not yet reduced.
use Rattle.std.specs.Prelude.{◌≡◌, ℕ, ◌+◌, ◌-◌, ◌*◌, ◌<◌, ◌≤◌, true, false, List, ◌≢◌}
use Rattle.nodes.specs.declared.node.Node.{Node}
use Rattle.nodes.specs.Diagrams.{node, at, down}

-- the number of n where each node has three: 0, 1, 4, 7, ..
abbrev pub num : ℕ → ℕ
num n = n + 2 * (n - 1)

-- the three nodes for the node n: one with the variable p splits into two of p + 1 and one of p, one with p + 1 is lifted to p, any other stays
pub data Trio (xs : List Node) (p n : ℕ) (a b c : Node) : Type 0 where
  split : (at xs n).var ≡ p →
      a ≡ node (p + 1) (num (down false xs (p + 1) (at xs n).low)) (num (down false xs (p + 1) (at xs n).high)) →
      b ≡ node (p + 1) (num (down true xs (p + 1) (at xs n).low)) (num (down true xs (p + 1) (at xs n).high)) →
      c ≡ node p (num n - 2) (num n - 1) →
      Trio xs p n a b c
  lift : (at xs n).var ≡ p + 1 →
      a ≡ node p 0 0 →
      b ≡ node p 0 0 →
      c ≡ node p (num (at xs n).low) (num (at xs n).high) →
      Trio xs p n a b c
  plain : ((at xs n).var ≢ p) →
      ((at xs n).var ≢ p + 1) →
      a ≡ node p 0 0 →
      b ≡ node p 0 0 →
      c ≡ node (at xs n).var (num (at xs n).low) (num (at xs n).high) →
      Trio xs p n a b c

-- ys has the three nodes of each node of xs with a number below top
abbrev pub Trios : List Node → ℕ → ℕ → List Node → Type 0
Trios xs p top ys = (n : ℕ) → 2 ≤ n → n < top → Trio xs p n (at ys (num n - 2)) (at ys (num n - 1)) (at ys (num n))
