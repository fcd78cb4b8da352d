-- The marks on what is come to from the root.
use Rattle.std.proofs.Common.{◌≡◌, ℕ, ◌+◌, ◌-◌, ◌<◌, ◌≤◌, Bool, true, false, ◌⊎◌, List, [], ◌∷◌, ◌++◌, length, get_or, set, replicate, sym, ap, ◌∙◌, subst, inl, inr, ⊎_elim, append_assoc, length-append, arith}
use Rattle.std.proofs.lemmas.Bool.{cases_eq, true≢false}
use Rattle.std.proofs.lemmas.List.{get_or-set_same, get_or-set_other, append-nil, length-replicate, length_push}
use Rattle.std.proofs.Math.Seq.{get_or-append_seam}
use Rattle.nodes.specs.declared.node.Node.{Node}
use Rattle.nodes.specs.Diagrams.{at, blank, Ordered, Reach, start, to_low, to_high}
use Rattle.nodes.proofs.Indexes.{get_or-copies}
use Rattle.nodes.specs.Marks.{Marked, Spread, Marks}

-- a mark more adds one
set-only : (marks : List Bool) (i n : ℕ) → Marked (set marks i true) n → Marked marks n ⊎ (n ≡ i)
set-only marks i n m =
    ⊎_elim
    (λ (e : n ≡ i). inr e)
    (λ (e : n ≡ i → ⊥). inl (sym (get_or-set_other marks i n true false e) ∙ m))
    (cases_eq n i)

-- the root is marked first
pub marks_first : (xs : List Node) (j root : ℕ) → root < j → Marks xs root (length xs + 2) (set (replicate j false) root true)
marks_first xs j root h =
    record {
      top = get_or-set_same (replicate j false) root true false (omega (arith, length-replicate j false));
      sound = λ n m.
          ⊎_elim
          (λ (q : Marked (replicate j false) n). absurd (true≢false (sym q ∙ get_or-copies j n false)))
          (λ (e : n ≡ root). let P : ℕ → Type 0 = λ t. Reach xs root t in subst P (sym e) start)
          (set-only (replicate j false) root n m);
      closed = λ n f two less m. absurd (omega arith);
    }

-- then the children of each marked node
pub marks_more : (xs : List Node) (root from : ℕ) (old new : List Bool) → Marks xs root from old → (n : ℕ) → 2 ≤ n → n + 1 ≡ from → (at xs n).low < n → (at xs n).high < n → Marked old n → Spread old new (at xs n) → Marks xs root n new
marks_more xs root from old new ms n two e l h here s =
    record {
      top = s.kept root ms.top;
      sound = λ q m.
          ⊎_elim
          (λ (a : Marked old q). ms.sound q a)
          (λ (a : (q ≡ (at xs n).low) ⊎ (q ≡ (at xs n).high)).
          let P : ℕ → Type 0 = λ t. Reach xs root t in
          ⊎_elim
          (λ b. subst P (sym b) (to_low two (ms.sound n here)))
          (λ b. subst P (sym b) (to_high two (ms.sound n here)))
          a)
          (s.only q m);
      closed = λ q f two' less m.
          ⊎_elim
          (λ (a : q ≡ n).
          let P : ℕ → Type 0 = λ t. Marked new (at xs t).low × Marked new (at xs t).high in
          subst P (sym a) (s.low, s.high))
          (λ (a : q ≡ n → ⊥).
          let w : Marked old q = ⊎_elim (λ b. b) (λ b. absurd (⊎_elim (λ d. omega (arith, d)) (λ d. omega (arith, d)) b)) (s.only q m) in
          let r = ms.closed q (omega arith) two' less w in
          (s.kept _ r.0, s.kept _ r.1))
          (cases_eq q n);
    }

-- a number without a mark needs none
pub marks_skip : (xs : List Node) (root from : ℕ) (marks : List Bool) → Marks xs root from marks → (n : ℕ) → n + 1 ≡ from → get_or marks n false ≡ false → Marks xs root n marks
marks_skip xs root from marks ms n e nay =
    record {
      top = ms.top;
      sound = ms.sound;
      closed = λ q f two less m.
          ⊎_elim
          (λ (a : q ≡ n). let P : ℕ → Type 0 = λ t. Marked marks t in absurd (true≢false (sym (subst P a m) ∙ nay)))
          (λ (a : q ≡ n → ⊥). ms.closed q (omega arith) two less m)
          (cases_eq q n);
    }

-- the loop from the last node back: `rest` are the nodes that it has still to come to, which count from k
pub record Marking (xs : List Node) (root : ℕ) (rest : List Node) (k : ℕ) (marks : List Bool) : Type 0 where
  pub seen : List Node
  pub all : xs ≡ rest ++ seen
  pub counted : k ≡ 0
  pub right : Marks xs root (length rest + 2) marks

pub marking_first : (xs : List Node) (j root r : ℕ) → r ≡ root → root < j → (rest : List Node) (k : ℕ) → rest ≡ xs → k ≡ 0 → Marking xs root rest k (set (replicate j false) r true)
marking_first xs j root r re h rest k e z =
    let P : ℕ → List Node → Type 0 = λ q ys. Marking xs root ys k (set (replicate j false) q true) in
    rw re (subst (P root) (sym e) (record { seen = []; all = sym (append-nil xs); counted = z; right = marks_first xs j root h }))

-- the node x with the index i comes next
module _ (xs : List Node) (root : ℕ) (rest : List Node) (k : ℕ) (old : List Bool) (s : Marking xs root rest k old) (rest' : List Node) (x : Node) (e : rest ≡ rest' ++ (x ∷ [])) (k' i : ℕ) (ke : k' ≡ k) (ie : i ≡ k + length rest') where
  whole : xs ≡ rest' ++ (x ∷ s.seen)
  whole = s.all ∙ ap (λ (z : List Node). z ++ s.seen) e ∙ append_assoc rest' (x ∷ []) s.seen

  pub marking-at : at xs (i + 2) ≡ x
  marking-at =
      let n : i + 2 - 2 ≡ length rest' = omega (arith, s.counted) in
      ap (λ (z : ℕ). get_or xs z blank) n ∙ ap (λ (z : List Node). get_or z (length rest') blank) whole ∙ get_or-append_seam rest' x s.seen blank

  pub marking_inside : i < length xs
  marking_inside = omega (arith, s.counted, ap (λ (z : List Node). length z) whole, length-append rest' (x ∷ s.seen))

  from : i + 2 + 1 ≡ length rest + 2
  from = omega (arith, s.counted, ap (λ (z : List Node). length z) e, length_push rest' x)

  on : (new : List Bool) → Marks xs root (i + 2) new → Marking xs root rest' k' new
  on new ms =
      let f : i + 2 ≡ length rest' + 2 = omega (arith, s.counted) in
      let P : ℕ → Type 0 = λ z. Marks xs root z new in
      record { seen = x ∷ s.seen; all = whole; counted = ke ∙ s.counted; right = subst P f ms }

  pub marking_more : (m : ℕ) → Ordered m xs (length xs) → (new : List Bool) → Marked old (i + 2) → Spread old new x → Marking xs root rest' k' new
  marking_more m o new here sp =
      let p = o (i + 2) (omega arith) (omega (arith, marking_inside)) in
      let P : Node → Type 0 = λ y. Spread old new y in
      on new (marks_more xs root (length rest + 2) old new s.right (i + 2) (omega arith) from p.1 p.2 here (subst P (sym marking-at) sp))

  pub marking_skip : get_or old (i + 2) false ≡ false → Marking xs root rest' k' old
  marking_skip nay = on old (marks_skip xs root (length rest + 2) old s.right (i + 2) from nay)

  pub marking_small : (m : ℕ) → Ordered m xs (length xs) → (x.low < i + 2) × (x.high < i + 2)
  marking_small m o =
      let p = o (i + 2) (omega arith) (omega (arith, marking_inside)) in
      let P : Node → Type 0 = λ y. (y.low < i + 2) × (y.high < i + 2) in
      subst P marking-at (p.1, p.2)
