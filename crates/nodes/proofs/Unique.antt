-- The nodes of a reduced ordered diagram are the parts of its function, so that it is unique.
use Rattle.std.proofs.Common.{◌≡◌, ℕ, suc, ◌+◌, ◌-◌, ◌<◌, ◌≤◌, List, sym, refl, ap, ◌∙◌, subst, inl, inr, arith}
use mathlib.Core.Logic.{∥∥₁_elim}
use Rattle.std.proofs.lemmas.Bool.{cases_lt, cases_Bool, true≢false}
use Rattle.functions.specs.Functions.{Fn, fork}
use Rattle.functions.specs.Classes.{among}
use Rattle.nodes.specs.declared.node.Node.{Node}
use Rattle.nodes.specs.Diagrams.{node, at, mean, level, Placed, Ordered, Reach, start, to_low, to_high, Diagram}
use Rattle.nodes.specs.Sizes.{parts, size}
use Rattle.nodes.specs.Laws.{Renumbered, DiagramLaws}
use Rattle.nodes.proofs.Canonical.{same, level-node, canonical}
use Rattle.nodes.proofs.Counting.{In, among_in, in_among, part_self}
use Rattle.nodes.proofs.Exact.{own, height, parts-nodes, Needed, at_least, at_most}
use Rattle.nodes.proofs.Rebuilding.{full, level_le, full_node, wanted, Stands, means_up, stands_end}

-- a number that is come to is at most the root's
reach_less : (m c : ℕ) (xs : List Node) → Ordered m xs c → (root : ℕ) → root < c + 2 → (n : ℕ) → Reach xs root n → n ≤ root
reach_less m c xs o root rc n start = omega arith
reach_less m c xs o root rc n (to_low {p = p} two r) = let l = reach_less m c xs o root rc p r in let w : Placed m xs p = o p two (omega arith) in omega arith
reach_less m c xs o root rc n (to_high {p = p} two r) = let l = reach_less m c xs o root rc p r in let w : Placed m xs p = o p two (omega arith) in omega arith

module _ (m c : ℕ) (xs : List Node) (root : ℕ) (g : Diagram m xs c root) where
  -- a node is one of the parts of what it means
  own_part : (n : ℕ) → 2 ≤ n → n < c + 2 → In (own m xs n) (parts (full m xs n))
  own_part n two nc =
      let o = g.ordered in
      let p : Placed m xs n = o n two nc in
      let v = (at xs n).var in
      let k : ℕ = m - suc v in
      let km : k + suc v ≡ m = omega arith in
      let A = mean xs k (suc v) (at xs n).low in
      let B = mean xs k (suc v) (at xs n).high in
      let e : full m xs n ≡ fork A B = full_node m c xs o n two nc k km in
      let e' : full m xs n ≡ own m xs n = ap (λ (t : ℕ). mean xs (m - t) t n) (level-node m xs n two) in
      let apart : A ≡ B → ⊥ = λ q. g.reduced.0 n two nc (canonical m c xs o g.reduced k (suc v) km (at xs n).low (at xs n).high (omega arith) (omega arith) p.3 p.4 q) in
      subst (λ (z : Fn). In z (parts (full m xs n))) (sym e ∙ e') (subst (λ (z : Fn). In (fork A B) (parts z)) (sym e) (part_self A B apart))

  -- so that each node is a part of the function
  pub needed : Needed m xs c (mean xs m 0 root)
  needed n two nc =
      let f = mean xs m 0 root in
      among_in (own m xs n) (parts f) (elim (cases_Bool (among (own m xs n) (parts f))) [
        | inl t ↦ t
        | inr t ↦ absurd (∥∥₁_elim (g.reached n two nc) (λ x y. absurd x) (λ r.
            true≢false (sym (in_among (own m xs n) (parts f) ((wanted m c xs g.ordered root g.rooted n r).part (own m xs n) (own_part n two nc))) ∙ t)))
      ])

  pub sized : c ≡ size (mean xs m 0 root)
  sized = omega (arith, at_least m c xs g.ordered g.reduced (mean xs m 0 root) needed, at_most m c xs g.ordered g.reduced root g.rooted)

  -- the root is the last node
  last : 0 < c → root ≡ c + 1
  last some = elim (cases_lt root (c + 1)) [
    | inl l ↦ absurd (∥∥₁_elim (g.reached (c + 1) (omega arith) (omega arith)) (λ x y. absurd x) (λ r. omega (arith, reach_less m c xs g.ordered root g.rooted (c + 1) r)))
    | inr l ↦ omega (arith, g.rooted)
  ]

module _ (m : ℕ) (xs ys : List Node) (c root e top : ℕ) (g : Diagram m xs c root) (h : Diagram m ys e top) (is : mean xs m 0 root ≡ mean ys m 0 top) where
  -- the number of n in ys
  record Sent (n : ℕ) : Type 0 where
    pub to : ℕ
    pub end : n < 2 → to ≡ n
    pub inner : 2 ≤ n → n < c + 2 → (2 ≤ to) × (to < e + 2) × (own m xs n ≡ own m ys to)

  sent : (n : ℕ) → Sent n
  sent n = elim (cases_lt n 2) [
    | inl l ↦ record { to = n; end = λ _. refl; inner = λ two nc. absurd (omega arith) }
    | inr two ↦ elim (cases_lt n (c + 2)) [
      | inl nc ↦
          let i : In (own m xs n) (parts (mean ys m 0 top)) = subst (λ (z : Fn). In (own m xs n) (parts z)) is (needed m c xs root g n two nc) in
          let d = parts-nodes m e ys h.ordered m 0 top (omega arith) h.rooted (own m xs n) i in
          let small = d.small in
          let there = h.rooted in
          record { to = d.n; end = λ l. absurd (omega arith); inner = λ _ _. (d.two, omega arith, d.is) }
      | inr l ↦ record { to = 0; end = λ z. absurd (omega arith); inner = λ _ nc. absurd (omega arith) }
    ]
  ]

  -- which has the same variable
  var_same : (n : ℕ) → 2 ≤ n → n < c + 2 → (at xs n).var ≡ (at ys (sent n).to).var
  var_same n two nc =
      let w = (sent n).inner two nc in
      let p : Placed m xs n = g.ordered n two nc in
      let q : Placed m ys (sent n).to = h.ordered (sent n).to w.0 w.1 in
      let e = height xs ys (m - (at xs n).var) (at xs n).var n (m - (at ys (sent n).to).var) (at ys (sent n).to).var (sent n).to w.2 in
      omega (arith, p.0, q.0)

  -- and means the same
  stands : (n : ℕ) → n < c + 2 → Stands m xs n ys e (sent n).to
  stands n nc = elim (cases_lt n 2) [
    | inl l ↦ subst (λ (z : ℕ). Stands m xs n ys e z) (sym ((sent n).end l)) (stands_end m xs ys e n l)
    | inr two ↦
        let w = (sent n).inner two nc in
        let v = var_same n two nc in
        let l = level-node m xs n two in
        record {
          there_is = w.1;
          later = omega (arith, level-node m ys (sent n).to w.0);
          means = ap (λ (t : ℕ). mean ys (m - t) t (sent n).to) (l ∙ v) ∙ (sym w.2 ∙ ap (λ (t : ℕ). mean xs (m - t) t n) (sym l));
        }
  ]

  -- n and its number in ys mean the same at each depth where n is
  alike : (k d n : ℕ) → k + d ≡ m → n < c + 2 → d ≤ level m xs n → mean ys k d (sent n).to ≡ mean xs k d n
  alike k d n km nc dl = means_up m xs n ys e (sent n).to (stands n nc) k d km (level_le m c xs g.ordered n nc) dl

  -- a node goes with its children
  node-same : (n : ℕ) → 2 ≤ n → n < c + 2 → at ys (sent n).to ≡ node (at xs n).var (sent (at xs n).low).to (sent (at xs n).high).to
  node-same n two nc =
      let b = (sent n).to in
      let w = (sent n).inner two nc in
      let v = var_same n two nc in
      let p : Placed m xs n = g.ordered n two nc in
      let q : Placed m ys (sent n).to = h.ordered (sent n).to w.0 w.1 in
      let u : ℕ = (at xs n).var in
      let k : ℕ = m - suc (at xs n).var in
      let km : k + suc (at xs n).var ≡ m = omega (arith, p.0) in
      let km' : k + suc (at ys b).var ≡ m = omega (arith, p.0) in
      let e1 : full m xs n ≡ fork (mean xs k (suc (at xs n).var) (at xs n).low) (mean xs k (suc (at xs n).var) (at xs n).high) = full_node m c xs g.ordered n two nc k km in
      let e2 : full m ys b ≡ fork (mean ys k (suc (at ys b).var) (at ys b).low) (mean ys k (suc (at ys b).var) (at ys b).high) = full_node m e ys h.ordered b w.0 w.1 k km' in
      let e3 : full m xs n ≡ own m xs n = ap (λ (t : ℕ). mean xs (m - t) t n) (level-node m xs n two) in
      let e4 : full m ys b ≡ own m ys b = ap (λ (t : ℕ). mean ys (m - t) t b) (level-node m ys b w.0) in
      let e5 : own m xs n ≡ own m ys b = w.2 in
      let l1 : mean xs k (suc (at xs n).var) (at xs n).low ≡ mean ys k (suc (at ys b).var) (at ys b).low = cc (e1, e2, e3, e4, e5) in
      let h1 : mean xs k (suc (at xs n).var) (at xs n).high ≡ mean ys k (suc (at ys b).var) (at ys b).high = cc (e1, e2, e3, e4, e5) in
      let lc : (at xs n).low < c + 2 = omega (arith, p.1) in
      let hc : (at xs n).high < c + 2 = omega (arith, p.2) in
      let sl = stands (at xs n).low lc in
      let sh = stands (at xs n).high hc in
      let vs : suc (at xs n).var ≡ suc (at ys b).var = ap suc v in
      let l2 : mean ys k (suc (at ys b).var) (at ys b).low ≡ mean ys k (suc (at ys b).var) (sent (at xs n).low).to = sym l1 ∙ (sym (alike k (suc (at xs n).var) (at xs n).low km lc p.3) ∙ ap (λ (t : ℕ). mean ys k t (sent (at xs n).low).to) vs) in
      let h2 : mean ys k (suc (at ys b).var) (at ys b).high ≡ mean ys k (suc (at ys b).var) (sent (at xs n).high).to = sym h1 ∙ (sym (alike k (suc (at xs n).var) (at xs n).high km hc p.4) ∙ ap (λ (t : ℕ). mean ys k t (sent (at xs n).high).to) vs) in
      let l3 = canonical m e ys h.ordered h.reduced k (suc (at ys b).var) km' (at ys b).low (sent (at xs n).low).to (omega (arith, q.1, w.1)) sl.there_is q.3 (omega (arith, sl.later, p.3)) l2 in
      let h3 = canonical m e ys h.ordered h.reduced k (suc (at ys b).var) km' (at ys b).high (sent (at xs n).high).to (omega (arith, q.2, w.1)) sh.there_is q.4 (omega (arith, sh.later, p.4)) h2 in
      same (at ys b) (node (at xs n).var (sent (at xs n).low).to (sent (at xs n).high).to) (sym v) l3 h3

  once : (a b : ℕ) → a < c + 2 → b < c + 2 → (sent a).to ≡ (sent b).to → a ≡ b
  once a b ac bc q =
      canonical m c xs g.ordered g.reduced m 0 (omega arith) a b ac bc (omega arith) (omega arith)
      (sym (alike m 0 a (omega arith) ac (omega arith)) ∙ (ap (λ (t : ℕ). mean ys m 0 t) q ∙ alike m 0 b (omega arith) bc (omega arith)))

  renumbered : Renumbered xs ys c root e top
  renumbered = record {
    to = λ n. (sent n).to;
    many = sized m c xs root g ∙ (ap size is ∙ sym (sized m e ys top h));
    zero_end = (sent 0).end (omega arith);
    one_end = (sent 1).end (omega arith);
    root_to =
        canonical m e ys h.ordered h.reduced m 0 (omega arith) (sent root).to top (stands root g.rooted).there_is h.rooted (omega arith) (omega arith)
        (alike m 0 root (omega arith) g.rooted (omega arith) ∙ is);
    inside = λ n two nc. let w = (sent n).inner two nc in (w.0, w.1);
    same = node-same;
    once = once;
  }

pub diagram_laws : DiagramLaws
diagram_laws = record {
  canonical = λ m xs c root g d a b dm ac bc da db e. canonical m c xs g.ordered g.reduced (m - d) d (omega arith) a b ac bc da db e;
  sized = λ m xs c root g. sized m c xs root g;
  last = λ m xs c root g. last m c xs root g;
  unique = λ m xs ys c root e top g h is. renumbered m xs ys c root e top g h is;
}
