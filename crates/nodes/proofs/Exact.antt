-- The nodes that are come to from a number mean the parts of its function.
use Rattle.std.proofs.Common.{◌≡◌, ℕ, zero, suc, ◌+◌, ◌-◌, ◌<◌, ◌≤◌, true, false, List, sym, ap, ◌∙◌, subst, arith}
use Rattle.nodes.specs.declared.node.Node.{Node}
use Rattle.functions.specs.Functions.{Fn, Arity}
use Rattle.functions.proofs.Values.{one_arity}
use Rattle.nodes.specs.Diagrams.{at, down, mean, Placed, Ordered, Reduced, Reach, start, to_low, to_high}
use Rattle.functions.specs.Classes.{classes}
use Rattle.nodes.specs.Sizes.{parts, size}
use Rattle.nodes.proofs.Canonical.{Look, stands, passes, look, level-node, canonical}
use Rattle.nodes.proofs.Grown.{down_less}
use Rattle.nodes.proofs.Counting.{In, no_longer, in_classes, classes_in, classes-apart, Part, whole, of_left, of_right, part_cases, table, length-table, table_in, in_table, table-apart}

-- what is meant at a depth is a function of the variables that are left
pub mean-arity : (xs : List Node) (k d n : ℕ) → Arity k (mean xs k d n)
unfolding mean
mean-arity xs zero d n = tt
mean-arity xs (suc k) d n = (mean-arity xs k (suc d) (down false xs d n), mean-arity xs k (suc d) (down true xs d n))

-- functions of different numbers of arguments differ
pub height : (xs ys : List Node) (k d n k' d' n' : ℕ) → mean xs k d n ≡ mean ys k' d' n' → k ≡ k'
height xs ys k d n k' d' n' e = one_arity k k' (mean xs k d n) (mean-arity xs k d n) (subst (Arity k') (sym e) (mean-arity ys k' d' n'))

-- what the node n means from its own variable on
abbrev pub own : ℕ → List Node → ℕ → Fn
own m xs n = mean xs (m - (at xs n).var) (at xs n).var n

-- the function x is what a node means, of those that are come to from the number top
pub record Found (m : ℕ) (xs : List Node) (top : ℕ) (x : Fn) : Type 0 where
  pub n : ℕ
  pub two : 2 ≤ n
  pub small : n ≤ top
  pub is : x ≡ own m xs n
  pub path : Reach xs top n

found_at : {m : ℕ} {xs : List Node} {a b : ℕ} {x : Fn} → a ≡ b → Found m xs a x → Found m xs b x
found_at {m} {xs} {a} {b} {x} e f = let P : ℕ → Type 0 = λ t. Found m xs t x in subst P e f

-- a way from l is one from where l is come to
reach_on : (xs : List Node) (top l n : ℕ) → Reach xs top l → Reach xs l n → Reach xs top n
reach_on xs top l n r start = r
reach_on xs top l n r (to_low {p = p} two q) = to_low two (reach_on xs top l p r q)
reach_on xs top l n r (to_high {p = p} two q) = to_high two (reach_on xs top l p r q)

-- what is found from a child is found from its parent
found_up : (m : ℕ) (xs : List Node) (top : ℕ) (x : Fn) (l : ℕ) → l < top → Reach xs top l → Found m xs l x → Found m xs top x
found_up m xs top x l less r f = record { n = f.n; two = f.two; small = omega (arith, f.small); is = f.is; path = reach_on xs top l f.n r f.path }

-- each part of what n means is what a node means that is come to from n
pub parts-nodes : (m c : ℕ) (xs : List Node) → Ordered m xs c → (k d n : ℕ) → k + d ≡ m → n < c + 2 → (x : Fn) → In x (parts (mean xs k d n)) → Found m xs n x
unfolding mean parts
parts-nodes m c xs o zero d n km nc x i = absurd i
parts-nodes m c xs o (suc k) d n km nc x i =
    let km' : k + suc d ≡ m = omega arith in
    let l0 = down_less m c xs o false d n nc in
    let l1 = down_less m c xs o true d n nc in
    go
    (λ j. parts-nodes m c xs o k (suc d) (down false xs d n) km' (omega arith) x j)
    (λ j. parts-nodes m c xs o k (suc d) (down true xs d n) km' (omega arith) x j)
    (look xs d n)
    (part_cases x (mean xs k (suc d) (down false xs d n)) (mean xs k (suc d) (down true xs d n)) i)
  where
    A : Fn
    A = mean xs k (suc d) (down false xs d n)

    B : Fn
    B = mean xs k (suc d) (down true xs d n)

    go : (In x (parts A) → Found m xs (down false xs d n) x) → (In x (parts B) → Found m xs (down true xs d n) x) → Look xs d n → Part x A B → Found m xs n x
    go f g (stands two v e0 e1) (whole e nay) =
        let kd : m - (at xs n).var ≡ suc k = omega arith in
        let s : x ≡ mean xs (suc k) d n = e in
        let s' : mean xs (suc k) d n ≡ mean xs (suc k) (at xs n).var n = ap (λ (t : ℕ). mean xs (suc k) t n) (sym v) in
        let s'' : mean xs (suc k) (at xs n).var n ≡ own m xs n = ap (λ (t : ℕ). mean xs t (at xs n).var n) (sym kd) in
        record { n = n; two = two; small = omega arith; is = s ∙ (s' ∙ s''); path = start }
    go f g (stands two v e0 e1) (of_left j) =
        let p : Placed m xs n = o n two nc in
        found_up m xs n x (down false xs d n) (omega arith) (subst (λ (l : ℕ). Reach xs n l) (sym e0) (to_low two start)) (f j)
    go f g (stands two v e0 e1) (of_right j) =
        let p : Placed m xs n = o n two nc in
        found_up m xs n x (down true xs d n) (omega arith) (subst (λ (l : ℕ). Reach xs n l) (sym e1) (to_high two start)) (g j)
    go f g (passes not-here e0 e1) (whole e nay) = absurd (nay (ap (λ (t : ℕ). mean xs k (suc d) t) (e0 ∙ sym e1)))
    go f g (passes not-here e0 e1) (of_left j) = found_at e0 (f j)
    go f g (passes not-here e0 e1) (of_right j) = found_at e1 (g j)

-- each node is a part of f
abbrev pub Needed : ℕ → List Node → ℕ → Fn → Type 0
Needed m xs c f = (n : ℕ) → 2 ≤ n → n < c + 2 → In (own m xs n) (parts f)

module _ (m c : ℕ) (xs : List Node) (o : Ordered m xs c) (r : Reduced xs c) where
  -- different nodes mean different functions
  own_once : (a b : ℕ) → 2 ≤ a → a < c + 2 → 2 ≤ b → b < c + 2 → own m xs a ≡ own m xs b → a ≡ b
  own_once a b a2 ac b2 bc e =
      let pa : Placed m xs a = o a a2 ac in
      let pb : Placed m xs b = o b b2 bc in
      let h = height xs xs (m - (at xs a).var) (at xs a).var a (m - (at xs b).var) (at xs b).var b e in
      let v : (at xs a).var ≡ (at xs b).var = omega arith in
      let e' : mean xs (m - (at xs a).var) (at xs a).var a ≡ mean xs (m - (at xs a).var) (at xs a).var b = e ∙ ap (λ (t : ℕ). mean xs (m - t) t b) (sym v) in
      canonical m c xs o r (m - (at xs a).var) (at xs a).var (omega arith) a b ac bc (omega (arith, level-node m xs a a2)) (omega (arith, level-node m xs b b2)) e'

  -- as many parts as nodes, where each node is needed
  pub at_least : (f : Fn) → Needed m xs c f → c ≤ size f
  at_least f need =
      let g : ℕ → Fn = λ i. own m xs (i + 2) in
      let l = no_longer (table g c) (classes (parts f))
      (table-apart g c (λ j k jc kc e. let q : j + 2 ≡ k + 2 = own_once (j + 2) (k + 2) (omega arith) (omega arith) (omega arith) (omega arith) e in omega arith))
      (λ x i. let t = in_table g c x i in
      let P : Fn → Type 0 = λ y. In y (classes (parts f)) in
      subst P (sym t.2) (in_classes (parts f) (g t.0) (need (t.0 + 2) (omega arith) (omega (arith, t.1))))) in
      omega (arith, l, length-table g c)

  module _ (root : ℕ) (rc : root < c + 2) where
    -- no more parts than nodes
    pub at_most : size (mean xs m 0 root) ≤ c
    at_most =
        let f = mean xs m 0 root in
        let g : ℕ → Fn = λ i. own m xs (i + 2) in
        let l = no_longer (classes (parts f)) (table g c) (classes-apart (parts f))
        (λ x i.
        let d = parts-nodes m c xs o m 0 root (omega arith) rc x (classes_in (parts f) x i) in
        let w : g (d.n - 2) ≡ own m xs d.n = ap (λ (t : ℕ). own m xs t) (omega (arith, d.two)) in
        let P : Fn → Type 0 = λ y. In y (table g c) in
        subst P (w ∙ sym d.is) (table_in g c (d.n - 2) (omega (arith, d.two, d.small)))) in
        omega (arith, l, length-table g c)

    pub reached : Needed m xs c (mean xs m 0 root) → (n : ℕ) → 2 ≤ n → n < c + 2 → Reach xs root n
    reached need n two less =
        let d = parts-nodes m c xs o m 0 root (omega arith) rc (own m xs n) (need n two less) in
        let q : n ≡ d.n = own_once n d.n two less d.two (omega (arith, d.small)) d.is in
        subst (λ (t : ℕ). Reach xs root t) (sym q) d.path
