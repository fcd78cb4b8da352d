-- Drafts: what the tests of one node more tell, and what a draft is after it.
use Rattle.std.proofs.Common.{◌≡◌, ℕ, ◌+◌, ◌-◌, ◌<◌, ◌≤◌, true, false, ◌||◌, eqb, ltb, List, [], ◌∷◌, ◌++◌, length, get_or, Ok, Err, Decides, Result, sym, refl, ap, ◌∙◌, subst, inl, inr, arith, MatchResult}
use Rattle.std.specs.List.{HoldsAt}
use Rattle.std.proofs.lemmas.List.{get_or_default, length_push}
use Rattle.std.proofs.lemmas.Bool.{and_parts, and_from, or_left, or_right, or_from, cases_Bool, cond-true, cond-false, eqb-true, eq-eqb, ne_eqb, ltb-true}
use Rattle.std.proofs.lemmas.Bool.Decides.{Decides-by_or}
use Rattle.rows.specs.Rows.{items}
use Rattle.nodes.specs.declared.node.Node.{Node}
use Rattle.nodes.specs.declared.draft.Draft.{Draft}
use Rattle.nodes.specs.declared.store.Store.{Store}
use Rattle.nodes.specs.declared.store.Full.{Full}
use Rattle.nodes.specs.Diagrams.{at, blank, level, Ordered, Proper, Single}
use Rattle.nodes.specs.Stores.{Absent, Did, dropped, there, pushed}
use Rattle.nodes.specs.Drafts.{below, in_place, same_node, among, fits, repeated, verdict}
use Rattle.nodes.proofs.Canonical.{same}
use Rattle.nodes.proofs.Indexes.{at_old, at_new}
use Rattle.nodes.proofs.Grown.{Agree, Above, ordered_grown, reduced_grown}

-- the test for one node among others
same_decides : (y x : Node) → Decides (same_node x y) (x ≡ y)
same_decides y x = (
  (λ e.
      let p = and_parts _ _ e in
      let q = and_parts _ _ p.1 in
      same x y (eqb-true x.var y.var p.0) (eqb-true x.low y.low q.0) (eqb-true x.high y.high q.1)),
  (λ e.
      and_from _ _ (eq-eqb x.var y.var (ap (λ (z : Node). z.var) e)) (and_from _ _ (eq-eqb x.low y.low (ap (λ (z : Node). z.low) e)) (eq-eqb x.high y.high (ap (λ (z : Node). z.high) e)))),
)

among_decides : (y : Node) (ys : List Node) → Decides (among y ys) ((k : ℕ) × (k < length ys) × HoldsAt (λ x. x ≡ y) ys k)
among_decides y = Decides-by_or (λ x. same_node x y) (λ x. x ≡ y) (among y) (same_decides y) refl (λ _ _. refl)

-- the nodes so far
module _ (xs : List Node) where
  -- a child in its place
  below_parts : (m v n : ℕ) → below m xs v n ≡ true → (n < length xs + 2) × (v < level m xs n)
  below_parts m v n e =
      let p = and_parts (ltb n (length xs + 2)) (ltb v (level m xs n)) e in
      let less : n < length xs + 2 = omega (arith, ltb-true n (length xs + 2) p.0) in
      (less, omega (arith, ltb-true v (level m xs n) p.1))

  -- a node in its place may stand above the others
  pub above_draft : (m : ℕ) (y : Node) → in_place m xs y ≡ true → Above m xs (length xs) y
  above_draft m y e =
      let p = and_parts _ _ e in
      let q = and_parts _ _ p.1 in
      let l = below_parts m y.var y.low q.0 in
      let h = below_parts m y.var y.high q.1 in
      record { within = ltb-true y.var m p.0; low-there = l.0; high-there = h.0; low-later = l.1; high-later = h.1 }

  -- a node that is there
  there-among : (y : Node) (n : ℕ) → 2 ≤ n → n < length xs + 2 → at xs n ≡ y → among y xs ≡ true
  there-among y n two less e =
      let k : n - 2 < length xs = omega arith in
      (among_decides y xs).1 (n - 2, k, λ d. get_or_default xs (n - 2) d blank k ∙ e)

  -- and one that is not
  absent_among : (y : Node) → Absent xs (length xs) y → among y xs ≡ false
  absent_among y none = elim (cases_Bool (among y xs)) [
    | inr e ↦ e
    | inl e ↦
        let w = (among_decides y xs).0 e in
        let k = w.0 in
        let less : k < length xs = omega (arith, w.1) in
        let i : k + 2 - 2 ≡ k = omega arith in
        absurd (none (k + 2) (omega arith) (omega arith) (ap (λ (j : ℕ). get_or xs j blank) i ∙ w.2 blank))
  ]

-- the verdicts on a node in its place
verdict-repeated : (m : ℕ) (ys : List Node) (y : Node) → in_place m ys y ≡ true → (eqb y.low y.high || among y ys) ≡ true → verdict m ys y ≡ repeated
verdict-repeated m ys y e d = cond-true _ _ _ e ∙ cond-true _ _ _ d

verdict-fits : (m : ℕ) (ys : List Node) (y : Node) → in_place m ys y ≡ true → (y.low ≡ y.high → ⊥) → among y ys ≡ false → verdict m ys y ≡ fits
verdict-fits m ys y e apart none = cond-true _ _ _ e ∙ cond-false _ _ _ (or_from _ _ (ne_eqb y.low y.high apart) none)

-- the nodes of a store
abbrev pub stored : Store → List Node
stored s = items s.nodes

-- what a draft keeps of its store
pub record Sound (m : ℕ) (s : Store) : Type 0 where
  pub ordered : Ordered m (items s.nodes) (length (items s.nodes))
  pub proper : Proper (items s.nodes) (length (items s.nodes))
  pub single : Single (items s.nodes) (length (items s.nodes))

pub sound_of : (d : Draft) → Sound d.arity d.store
sound_of d = record { ordered = d.ordered; proper = d.proper; single = d.single }

-- what came of a node in its place: it repeats, and nothing changed, or it is the last of the nodes
pub data Came (m : ℕ) (s t : Store) (y : Node) (n : ℕ) : Type 0 where
  again : n < length (items s.nodes) + 2 → verdict m (stored s) y ≡ repeated → stored t ≡ stored s → Came m s t y n
  last : n ≡ length (items s.nodes) + 2 → verdict m (stored s) y ≡ fits → length (stored s) < 1024 → stored t ≡ stored s ++ (y ∷ []) → Came m s t y n

module _ (m : ℕ) (s t : Store) (y : Node) (o : Sound m s) (ok : in_place m (stored s) y ≡ true) where
  pub came : (n : ℕ) → Did s t y n → Came m s t y n
  came n (dropped e q r) =
      let a = above_draft (items s.nodes) m y ok in
      again (omega (arith, a.low-there)) (verdict-repeated m (stored s) y ok (or_left _ _ (eq-eqb y.low y.high q))) (ap stored e)
  came n (there e apart two less is) = again less (verdict-repeated m (stored s) y ok (or_right _ _ (there-among (items s.nodes) y n two less is))) (ap stored e)
  came n (pushed room nodes apart absent r) = last r (verdict-fits m (stored s) y ok apart (absent_among (items s.nodes) y absent)) room nodes

  kept-did : (n : ℕ) → Did s t y n → Sound m t
  kept-did n = go
    where
      same_store : t ≡ s → Sound m t
      same_store e = let P : Store → Type 0 = λ z. Sound m z in subst P (sym e) o

      go : Did s t y n → Sound m t
      go (dropped e q r) = same_store e
      go (there e apart two less is) = same_store e
      go (pushed room nodes apart absent r) =
          let g : Agree (items s.nodes) (items t.nodes) (length (items s.nodes)) = λ i two less. ap (λ (z : List Node). at z i) nodes ∙ at_old (items s.nodes) y i two less in
          let new : at (items t.nodes) (length (items s.nodes) + 2) ≡ y = ap (λ (z : List Node). at z (length (items s.nodes) + 2)) nodes ∙ at_new (items s.nodes) y (length (items s.nodes) + 2) refl in
          let od = ordered_grown m (length (items s.nodes)) (items s.nodes) (items t.nodes) y o.ordered g new (above_draft (items s.nodes) m y ok) in
          let rd = reduced_grown (length (items s.nodes)) (items s.nodes) (items t.nodes) y (o.proper, o.single) g new apart absent in
          let P : ℕ → Type 0 = λ k. Ordered m (items t.nodes) k × Proper (items t.nodes) k × Single (items t.nodes) k in
          let p : P (length (items t.nodes)) = subst P (sym (ap length nodes ∙ length_push (items s.nodes) y)) (od, rd.0, rd.1) in
          record { ordered = p.0; proper = p.1; single = p.2 }

  -- what a draft keeps of its store stays
  pub kept : (r : Result ℕ Full) → MatchResult r (λ n. Did s t y n) (λ _. (t ≡ s) × (length (items s.nodes) ≡ 1024) × (y.low ≡ y.high → ⊥) × Absent (items s.nodes) (length (items s.nodes)) y) → Sound m t
  kept (Ok n) h = kept-did n h
  kept (Err f) h = let P : Store → Type 0 = λ z. Sound m z in subst P (sym h.0) o

  -- where there is no room, the node would have been the last
  pub full : length (items s.nodes) ≡ 1024 → (y.low ≡ y.high → ⊥) → Absent (items s.nodes) (length (items s.nodes)) y → (verdict m (stored s) y ≡ fits) × (length (stored s) ≡ 1024)
  full many apart absent = (verdict-fits m (stored s) y ok apart (absent_among (items s.nodes) y absent), many)

-- which of both it was, by the number that was answered
pub came_again : (m : ℕ) (s t : Store) (y : Node) (n : ℕ) → Came m s t y n → n < length (items s.nodes) + 2 → (verdict m (stored s) y ≡ repeated) × (stored t ≡ stored s)
came_again m s t y n (again l v e) h = (v, e)
came_again m s t y n (last r v l e) h = absurd (omega arith)

pub came_last : (m : ℕ) (s t : Store) (y : Node) (n : ℕ) → Came m s t y n → length (items s.nodes) + 2 ≤ n → (verdict m (stored s) y ≡ fits) × (length (stored s) < 1024) × (stored t ≡ stored s ++ (y ∷ []))
came_last m s t y n (again l v e) h = absurd (omega arith)
came_last m s t y n (last r v l e) h = (v, l, e)
