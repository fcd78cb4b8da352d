-- The index by hash of a store, and the walk along a bucket.
use Rattle.std.proofs.Common.{◌≡◌, ℕ, ◌+◌, ◌-◌, ◌<◌, ◌≤◌, ◌≢◌, List, [], ◌∷◌, ◌++◌, Option, None, Some, unwrap_or, length, get_or, set, replicate, sym, refl, ap, ◌∙◌, subst, ⊎_elim, arith}
use Rattle.std.proofs.lemmas.Bool.{cases_lt, cases_eq}
use Rattle.std.proofs.lemmas.List.{get_or-set_same, get_or-set_other, get_or-replicate, get_or_past, get_or_append_left, get_or_push, length-replicate}
use Rattle.nodes.specs.declared.node.Node.{Node}
use Rattle.nodes.specs.Diagrams.{at, blank, Ordered}
use Rattle.nodes.specs.Buckets.{hash, head, link, Indexed}

-- the node at the index i
pub at-index : (xs : List Node) (i : ℕ) → at xs (i + 2) ≡ get_or xs i blank
at-index xs i = let e : i + 2 - 2 ≡ i = omega arith in rw e refl

-- whose children have smaller numbers
pub smaller-children : (m : ℕ) (xs : List Node) (i : ℕ) → Ordered m xs (length xs) → i < length xs → ((get_or xs i blank).low < i + 2) × ((get_or xs i blank).high < i + 2)
smaller-children m xs i o h =
    let p = o (i + 2) (omega arith) (omega arith) in
    let P : Node → Type 0 = λ y. (y.low < i + 2) × (y.high < i + 2) in
    subst P (at-index xs i) (p.1, p.2)

-- the nodes after one put behind them
pub at_old : (xs : List Node) (node : Node) (n : ℕ) → 2 ≤ n → n < length xs + 2 → at (xs ++ (node ∷ [])) n ≡ at xs n
at_old xs node n h k = get_or_append_left xs (node ∷ []) blank (n - 2) (omega arith)

-- and that one
pub at_new : (xs : List Node) (node : Node) (n : ℕ) → n ≡ length xs + 2 → at (xs ++ (node ∷ [])) n ≡ node
at_new xs node n e = get_or_push xs node blank (n - 2) (omega arith)

-- an entry after a write
data Write (xs : List (Option ℕ)) (b : ℕ) (v : Option ℕ) (q : ℕ) : Type 0 where
  hit : q ≡ b → get_or (set xs b v) q None ≡ v → Write xs b v q
  miss : q ≢ b → get_or (set xs b v) q None ≡ get_or xs q None → Write xs b v q

wrote : (xs : List (Option ℕ)) (b : ℕ) (v : Option ℕ) (q : ℕ) → b < length xs → Write xs b v q
wrote xs b v q h =
    ⊎_elim
    (λ (e : q ≡ b). hit e (rw e (get_or-set_same xs b v None h)))
    (λ (e : q ≡ b → ⊥). miss e (get_or-set_other xs b q v None e))
    (cases_eq q b)

-- a list of copies has no other entry
pub get_or-copies : {A : Type 0} (k q : ℕ) (d : A) → get_or (replicate k d) q d ≡ d
get_or-copies k q d = ⊎_elim (λ (h : q < k). get_or-replicate k q d d h) (λ (h : k ≤ q). get_or_past (replicate k d) q d (omega (arith, length-replicate k d))) (cases_lt q k)

-- the index of no node
pub index-none : (xs : List Node) (j k : ℕ) → Indexed xs (replicate j None) (replicate k None) 0
index-none xs j k =
    record {
      head_all = λ n h l. omega arith;
      head_of = λ b n e. let z : ◌≡◌ {A = Option ℕ} None (Some n) = sym (get_or-copies {A = Option ℕ} j b None) ∙ e in absurd (cc);
      next_all = λ n a h l k e. omega arith;
      next_of = λ n l two less e. omega arith;
    }

module _ (xs : List Node) (heads nexts : List (Option ℕ)) (c : ℕ) (node : Node) (x : Indexed xs heads nexts c) (cx : c ≡ length xs) (cn : c < length nexts) (ch : hash node < length heads) where
  ys : List Node
  ys = xs ++ (node ∷ [])

  heads' : List (Option ℕ)
  heads' = set heads (hash node) (Some (c + 2))

  nexts' : List (Option ℕ)
  nexts' = set nexts c (head heads (hash node))

  -- the links after a push
  push_next_old : (n : ℕ) → 2 ≤ n → n < c + 2 → link nexts' n ≡ link nexts n
  unfolding nexts'
  push_next_old n two less = get_or-set_other nexts c (n - 2) (head heads (hash node)) None (omega arith)

  push_next_new : (n : ℕ) → n ≡ c + 2 → link nexts' n ≡ head heads (hash node)
  unfolding nexts'
  push_next_new n e =
      let e' : n - 2 ≡ c = omega arith in
      rw e' (get_or-set_same nexts c (head heads (hash node)) None cn)

  -- the four facts of the index after a push
  push_head_all : (n : ℕ) → 2 ≤ n → n < c + 1 + 2 → n ≤ unwrap_or (head heads' (hash (at ys n))) 0
  unfolding ys heads'
  push_head_all n two less = go (wrote heads (hash node) (Some (c + 2)) (hash (at ys n)) ch)
    where
      go : Write heads (hash node) (Some (c + 2)) (hash (at ys n)) → n ≤ unwrap_or (head heads' (hash (at ys n))) 0
      go (hit e v) = omega (arith, ap (λ z. unwrap_or z 0) v)
      go (miss e v) =
          ⊎_elim
          (λ (l : n < c + 2).
          let o = at_old xs node n two (omega arith) in
          let g : n ≤ unwrap_or (head heads (hash (at ys n))) 0 = rw o (x.head_all n two l) in
          omega (arith, ap (λ z. unwrap_or z 0) v))
          (λ (l : c + 2 ≤ n). absurd (e (ap hash (at_new xs node n (omega arith)))))
          (cases_lt n (c + 2))

  push_head_of : (b n : ℕ) → head heads' b ≡ Some n → (2 ≤ n) × (n < c + 1 + 2) × (hash (at ys n) ≡ b)
  unfolding ys heads'
  push_head_of b n is = go (wrote heads (hash node) (Some (c + 2)) b ch)
    where
      go : Write heads (hash node) (Some (c + 2)) b → (2 ≤ n) × (n < c + 1 + 2) × (hash (at ys n) ≡ b)
      go (hit e v) = let n≡ : n ≡ c + 2 = cc in (omega arith, omega arith, ap hash (at_new xs node n (omega arith)) ∙ sym e)
      go (miss e v) = let h = x.head_of b n (sym v ∙ is) in (h.0, omega (arith, h.1), ap hash (at_old xs node n h.0 (omega (arith, h.1))) ∙ h.2)

  push_next_all : (n a : ℕ) → 2 ≤ a → a < n → n < c + 1 + 2 → hash (at ys a) ≡ hash (at ys n) → a ≤ unwrap_or (link nexts' n) 0
  unfolding ys
  push_next_all n a two less top e =
      let ea = at_old xs node a two (omega arith) in
      ⊎_elim
      (λ (l : n < c + 2).
      let en = at_old xs node n (omega arith) (omega arith) in
      let e' : hash (at xs a) ≡ hash (at xs n) = ap hash (sym ea) ∙ (e ∙ ap hash en) in
      let g : a ≤ unwrap_or (link nexts n) 0 = x.next_all n a two less l e' in
      omega (arith, ap (λ z. unwrap_or z 0) (push_next_old n (omega arith) l)))
      (λ (l : c + 2 ≤ n).
      let n≡ : n ≡ c + 2 = omega arith in
      let e' : hash (at xs a) ≡ hash node = ap hash (sym ea) ∙ (e ∙ ap hash (at_new xs node n (omega arith))) in
      let g : a ≤ unwrap_or (head heads (hash (at xs a))) 0 = x.head_all a two (omega arith) in
      omega (arith, g, ap (λ (t : ℕ). unwrap_or (head heads t) 0) e', ap (λ z. unwrap_or z 0) (push_next_new n n≡)))
      (cases_lt n (c + 2))

  push_next_of : (n l : ℕ) → 2 ≤ n → n < c + 1 + 2 → link nexts' n ≡ Some l → (2 ≤ l) × (l < n) × (hash (at ys l) ≡ hash (at ys n))
  unfolding ys
  push_next_of n l two top is =
      ⊎_elim
      (λ (less : n < c + 2).
      let h = x.next_of n l two less (sym (push_next_old n two less) ∙ is) in
      (h.0, h.1, ap hash (at_old xs node l h.0 (omega (arith, h.1))) ∙ (h.2 ∙ ap hash (sym (at_old xs node n two (omega arith))))))
      (λ (more : c + 2 ≤ n).
      let n≡ : n ≡ c + 2 = omega arith in
      let h = x.head_of (hash node) l (sym (push_next_new n n≡) ∙ is) in
      (h.0, omega (arith, h.1), ap hash (at_old xs node l h.0 (omega (arith, h.1))) ∙ (h.2 ∙ ap hash (sym (at_new xs node n (omega arith))))))
      (cases_lt n (c + 2))

  -- one node more
  pub index_push : Indexed (xs ++ (node ∷ [])) (set heads (hash node) (Some (c + 2))) (set nexts c (head heads (hash node))) (c + 1)
  unfolding ys heads' nexts'
  index_push = record { head_all = push_head_all; head_of = push_head_of; next_all = push_next_all; next_of = push_next_of }

-- what a walk along a chain keeps: what is looked for is not past the walker
abbrev pub Walk : List Node → ℕ → Node → Option ℕ → Type 0
Walk xs c node cur =
    ((n : ℕ) → 2 ≤ n → n < c + 2 → at xs n ≡ node → n ≤ unwrap_or cur 0)
    × ((n : ℕ) → cur ≡ Some n → (2 ≤ n) × (n < c + 2) × (hash (at xs n) ≡ hash node))

-- from the head of the node's bucket
pub walk_first : (xs : List Node) (heads nexts : List (Option ℕ)) (c : ℕ) → Indexed xs heads nexts c → (node : Node) (b : ℕ) → b ≡ hash node → Walk xs c node (head heads b)
walk_first xs heads nexts c x node b be =
    let same : (n : ℕ) → at xs n ≡ node → hash (at xs n) ≡ b = λ n e. ap hash e ∙ sym be in (
      (λ n two less e. omega (arith, x.head_all n two less, ap (λ (t : ℕ). unwrap_or (head heads t) 0) (same n e))),
      (λ n is. let h = x.head_of b n is in (h.0, h.1, h.2 ∙ be)),
    )

-- a link leads to a smaller number
pub walk_falls : (xs : List Node) (heads nexts : List (Option ℕ)) (c : ℕ) → Indexed xs heads nexts c → (k : ℕ) → 2 ≤ k → k < c + 2 → unwrap_or (link nexts k) 0 < k
walk_falls xs heads nexts c x k two less = go (link nexts k) refl
  where
    go : (l : Option ℕ) → link nexts k ≡ l → unwrap_or l 0 < k
    go None e = omega arith
    go (Some l) e = let h = x.next_of k l two less e in omega (arith, h.1)

-- one link further
pub walk_more : (xs : List Node) (heads nexts : List (Option ℕ)) (c : ℕ) → Indexed xs heads nexts c → (node : Node) (cur : Option ℕ) → Walk xs c node cur → (k : ℕ) → cur ≡ Some k → (at xs k ≡ node → ⊥) → Walk xs c node (link nexts k)
walk_more xs heads nexts c x node cur w k is differs =
    let here = w.1 k is in (
      (λ n two less e.
          let small : n ≤ unwrap_or cur 0 = w.0 n two less e in
          let other : n ≡ k → ⊥ = λ q. let P : ℕ → Type 0 = λ y. at xs y ≡ node in differs (subst P q e) in
          let below : n < k = omega (arith, ap (λ z. unwrap_or z 0) is) in
          x.next_all k n two below here.1 (ap hash e ∙ sym here.2)),
      (λ n next.
          let h = x.next_of k n here.0 here.1 next in
          (h.0, omega (arith, h.1, here.1), h.2 ∙ here.2)),
    )
