-- A diagram with one node more.
use Rattle.std.proofs.Common.{◌≡◌, ℕ, zero, suc, ◌+◌, ◌<◌, ◌≤◌, Bool, true, false, List, sym, refl, ap, ◌∙◌, subst, ⊎_elim, arith}
use Rattle.std.proofs.lemmas.Bool.{cases_lt, le-ltb}
use Rattle.nodes.specs.declared.node.Node.{Node}
use Rattle.nodes.specs.Diagrams.{at, down, mean, level, Placed, Ordered, Reduced, Inner}
use Rattle.nodes.specs.Stores.{Absent}
use Rattle.nodes.proofs.Canonical.{Look, stands, passes, look, level-end, level-node}

-- a step does not lead to a greater number
pub down_less : (m c : ℕ) (xs : List Node) → Ordered m xs c → (v : Bool) (d n : ℕ) → n < c + 2 → down v xs d n ≤ n
down_less m c xs o v d n nc = go v (look xs d n)
  where
    go : (v : Bool) → Look xs d n → down v xs d n ≤ n
    go false (stands two e e0 e1) = let p : Placed m xs n = o n two nc in omega arith
    go true (stands two e e0 e1) = let p : Placed m xs n = o n two nc in omega arith
    go false (passes nay e0 e1) = omega arith
    go true (passes nay e0 e1) = omega arith

-- ys has the nodes of xs below the number c + 2
abbrev pub Agree : List Node → List Node → ℕ → Type 0
Agree xs ys c = (n : ℕ) → 2 ≤ n → n < c + 2 → at ys n ≡ at xs n

module _ (xs ys : List Node) (c : ℕ) (agree : Agree xs ys c) where
  -- a step leads to the same number
  down-agree : (v : Bool) (d n : ℕ) → n < c + 2 → down v ys d n ≡ down v xs d n
  down-agree v d n nc =
      ⊎_elim
      (λ (h : n < 2). let e = le-ltb 1 n (omega arith) in rw e refl)
      (λ (h : 2 ≤ n). let e : at ys n ≡ at xs n = agree n h nc in rw e refl)
      (cases_lt n 2)

  -- the variables are the same
  pub level-agree : (m n : ℕ) → n < c + 2 → level m ys n ≡ level m xs n
  level-agree m n nc =
      ⊎_elim
      (λ (h : n < 2). level-end m ys n h ∙ sym (level-end m xs n h))
      (λ (h : 2 ≤ n). level-node m ys n h ∙ (ap (λ (y : Node). y.var) (agree n h nc) ∙ sym (level-node m xs n h)))
      (cases_lt n 2)

-- and so is what a number means
pub mean-agree : (m c : ℕ) (xs ys : List Node) → Ordered m xs c → Agree xs ys c → (k d n : ℕ) → n < c + 2 → mean ys k d n ≡ mean xs k d n
unfolding mean
mean-agree m c xs ys o g zero d n nc = refl
mean-agree m c xs ys o g (suc k) d n nc =
    let e0 = down-agree xs ys c g false d n nc in
    let e1 = down-agree xs ys c g true d n nc in
    let l0 = down_less m c xs o false d n nc in
    let l1 = down_less m c xs o true d n nc in
    let h0 : mean ys k (suc d) (down false xs d n) ≡ mean xs k (suc d) (down false xs d n) = mean-agree m c xs ys o g k (suc d) (down false xs d n) (omega arith) in
    let h1 : mean ys k (suc d) (down true xs d n) ≡ mean xs k (suc d) (down true xs d n) = mean-agree m c xs ys o g k (suc d) (down true xs d n) (omega arith) in
    cc

-- a node with a variable and children in order
pub placed : (m : ℕ) (ys : List Node) (n : ℕ) (y : Node) → at ys n ≡ y → y.var < m → y.low < n → y.high < n → y.var < level m ys y.low → y.var < level m ys y.high → Placed m ys n
placed m ys n y e a b c' d f =
    subst (λ (z : Node). (z.var < m) × (z.low < n) × (z.high < n) × (z.var < level m ys z.low) × (z.var < level m ys z.high)) (sym e) (a, b, c', d, f)

-- the node may stand above the first c nodes of xs
pub record Above (m : ℕ) (xs : List Node) (c : ℕ) (node : Node) : Type 0 where
  pub within : node.var < m
  pub low-there : node.low < c + 2
  pub high-there : node.high < c + 2
  pub low-later : node.var < level m xs node.low
  pub high-later : node.var < level m xs node.high

-- with such a node the diagram stays ordered
pub ordered_grown : (m c : ℕ) (xs ys : List Node) (node : Node) → Ordered m xs c → Agree xs ys c → at ys (c + 2) ≡ node → Above m xs c node → Ordered m ys (c + 1)
ordered_grown m c xs ys node o g new ab n two less =
    ⊎_elim
    (λ (h : n < c + 2).
    let p : Placed m xs n = o n two h in
    let ll = level-agree xs ys c g m (at xs n).low (omega arith) in
    let lh = level-agree xs ys c g m (at xs n).high (omega arith) in
    placed m ys n (at xs n) (g n two h) p.0 p.1 p.2 (omega (arith, ll, p.3)) (omega (arith, lh, p.4)))
    (λ (h : c + 2 ≤ n).
    let q : n ≡ c + 2 = omega arith in
    let e : at ys n ≡ node = ap (at ys) q ∙ new in
    let ll = level-agree xs ys c g m node.low ab.low-there in
    let lh = level-agree xs ys c g m node.high ab.high-there in
    placed m ys n node e ab.within (omega (arith, ab.low-there)) (omega (arith, ab.high-there)) (omega (arith, ll, ab.low-later)) (omega (arith, lh, ab.high-later)))
    (cases_lt n (c + 2))

-- and reduced, if the node is new and its children differ
pub reduced_grown : (c : ℕ) (xs ys : List Node) (node : Node) → Reduced xs c → Agree xs ys c → at ys (c + 2) ≡ node → (node.low ≡ node.high → ⊥) → Absent xs c node → Reduced ys (c + 1)
reduced_grown c xs ys node r g new apart absent =
    (differ', single')
  where
    is_new : (n : ℕ) → n < c + 1 + 2 → c + 2 ≤ n → at ys n ≡ node
    is_new n l h = let q : n ≡ c + 2 = omega arith in ap (at ys) q ∙ new

    differ' : (n : ℕ) → 2 ≤ n → n < c + 1 + 2 → (at ys n).low ≡ (at ys n).high → ⊥
    differ' n two less e =
        ⊎_elim
        (λ (h : n < c + 2). let q = g n two h in r.0 n two h (ap (λ (z : Node). z.low) (sym q) ∙ (e ∙ ap (λ (z : Node). z.high) q)))
        (λ (h : c + 2 ≤ n). let q = is_new n less h in apart (ap (λ (z : Node). z.low) (sym q) ∙ (e ∙ ap (λ (z : Node). z.high) q)))
        (cases_lt n (c + 2))

    single' : (a b : ℕ) → Inner (c + 1) a × Inner (c + 1) b × (at ys a ≡ at ys b) → a ≡ b
    single' a b ((a2, ac), (b2, bc), e) =
        ⊎_elim
        (λ (h : a < c + 2).
        ⊎_elim
        (λ (k : b < c + 2). r.1 a b ((a2, h), (b2, k), sym (g a a2 h) ∙ (e ∙ g b b2 k)))
        (λ (k : c + 2 ≤ b). absurd (absent a a2 h (sym (g a a2 h) ∙ (e ∙ is_new b bc k))))
        (cases_lt b (c + 2)))
        (λ (h : c + 2 ≤ a).
        ⊎_elim
        (λ (k : b < c + 2). absurd (absent b b2 k (sym (g b b2 k) ∙ (sym e ∙ is_new a ac h))))
        (λ (k : c + 2 ≤ b). omega arith)
        (cases_lt b (c + 2)))
        (cases_lt a (c + 2))
