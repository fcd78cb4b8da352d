-- The nodes that others name, and the smallest that none names.
use Rattle.std.proofs.Common.{◌≡◌, ℕ, zero, suc, ◌+◌, ◌-◌, ◌<◌, ◌≤◌, Bool, true, false, cond, not, ◌||◌, eqb, ◌⊎◌, List, [], ◌∷◌, ◌++◌, length, get_or, take, drop, Some, None, Decides, Option, option_map, sym, refl, ap, ◌∙◌, subst, inl, inr, ⊎_elim, arith}
use Rattle.std.specs.List.{HoldsAt, position, position_from}
use Rattle.std.proofs.lemmas.Iterator.Adapters.{position_from-zero}
use Rattle.std.proofs.lemmas.List.{at_drop_more, at_drop_all, drop_all, drop_more, get_or-drop, get_or-take, length-drop, length-take-le, take-append-drop, take_more}
use Rattle.std.proofs.lemmas.Bool.{cases_Bool, cases_lt, cond-true, cond-false, eqb-true, eq-eqb, or_cases, or_left, or_right, true≢false}
use Rattle.std.proofs.lemmas.Bool.Decides.{Decides-by_or, Decides-or, Decides-eqb}
use Rattle.std.proofs.Math.Bool.{or_assoc, or-false}
use Rattle.nodes.specs.declared.node.Node.{Node}
use Rattle.nodes.specs.Diagrams.{at, blank, Ordered, Reach, start, to_low, to_high, Reached}
use Rattle.nodes.specs.Marks.{Marked, Spread}
use Rattle.nodes.specs.Drafts.{names, unnamed, top}

-- n is a child of y
abbrev Parent : ℕ → Node → Type 0
Parent n y = (y.low ≡ n) ⊎ (y.high ≡ n)

-- whether it is
abbrev child : ℕ → Node → Bool
child n y = eqb y.low n || eqb y.high n

names_decides : (n : ℕ) (ys : List Node) → Decides (names n ys) ((k : ℕ) × (k < length ys) × HoldsAt (Parent n) ys k)
names_decides n = Decides-by_or (child n) (Parent n) (names n) (λ x. Decides-or _ _ (Decides-eqb x.low n) (Decides-eqb x.high n)) refl (λ _ _. refl)

names-append : (n : ℕ) (xs ys : List Node) → names n (xs ++ ys) ≡ (names n xs || names n ys)
names-append n [] ys = refl
names-append n (x ∷ xs) ys = let p = child n x in ap (λ (b : Bool). p || b) (names-append n xs ys) ∙ sym (or_assoc p (names n xs) (names n ys))

-- the marks of two children more
spread_names : (old new : List Bool) (y : Node) → Spread old new y → (n : ℕ) → get_or new n false ≡ (get_or old n false || child n y)
spread_names old new y s n = elim (cases_Bool (get_or old n false || child n y)) [
  | inl e ↦
      let P : ℕ → Type 0 = λ k. Marked new k in
      let w : Marked new n = ⊎_elim (λ (h : Marked old n). s.kept n h) (λ (h : child n y ≡ true). ⊎_elim (λ l. subst P (eqb-true y.low n l) s.low) (λ l. subst P (eqb-true y.high n l) s.high) (or_cases _ _ h)) (or_cases _ _ e) in
      w ∙ sym e
  | inr e ↦ elim (cases_Bool (get_or new n false)) [
    | inr f ↦ f ∙ sym e
    | inl f ↦
        let w : (get_or old n false || child n y) ≡ true = ⊎_elim (λ (h : Marked old n). or_left (get_or old n false) (child n y) h) (λ (h : (n ≡ y.low) ⊎ (n ≡ y.high)). or_right (get_or old n false) (child n y) (⊎_elim (λ (l : n ≡ y.low). or_left (eqb y.low n) (eqb y.high n) (eq-eqb y.low n (sym l))) (λ (l : n ≡ y.high). or_right (eqb y.low n) (eqb y.high n) (eq-eqb y.high n (sym l))) h)) (s.only n f) in
        absurd (true≢false (sym w ∙ e))
  ]
]

pub names_more : (xs : List Node) (i : ℕ) → i < length xs → (old new : List Bool) → Spread old new (get_or xs i blank) → ((n : ℕ) → get_or old n false ≡ names n (take i xs)) → (n : ℕ) → get_or new n false ≡ names n (take (i + 1) xs)
names_more xs i h old new s e n =
    let y = get_or xs i blank in
    let p = child n (get_or xs i blank) in
    spread_names old new y s n ∙ ap (λ (b : Bool). b || p) (e n) ∙ ap (λ (b : Bool). names n (take i xs) || b) (sym (or-false p)) ∙ sym (names-append n (take i xs) (y ∷ [])) ∙ sym (ap (names n) (take_more xs i blank h))

-- one node further in the search for the smallest that none names
pub unnamed-more : (ys : List Node) (n i : ℕ) → i + 1 < length ys → unnamed n (drop i ys) ≡ cond (names n (drop (i + 1) ys)) (unnamed (n + 1) (drop (i + 1) ys)) (Some n)
unnamed-more ys n i h =
    let y = get_or ys i blank in
    let d : drop (i + 1) ys ≡ get_or ys (i + 1) blank ∷ drop (i + 1 + 1) ys = drop_more ys (i + 1) blank h in
    let G : List Node → Option ℕ = λ l. cond (names n l) (unnamed (n + 1) l) (Some n) in
    at_drop_more (unnamed n) ys i blank (omega arith) ∙ ap (λ (l : List Node). unnamed n (y ∷ l)) d ∙ sym (ap G d)

pub unnamed-none : (ys : List Node) (n i : ℕ) → length ys ≤ i + 1 → unnamed n (drop i ys) ≡ None
unnamed-none ys n i h = elim (cases_lt i (length ys)) [
  | inl l ↦ at_drop_more (unnamed n) ys i blank l ∙ ap (λ (t : List Node). unnamed n (get_or ys i blank ∷ t)) (drop_all (i + 1) ys h)
  | inr l ↦ at_drop_all (unnamed n) ys i l
]

-- in order, only later nodes name a node
module _ (m : ℕ) (xs : List Node) (o : Ordered m xs (length xs)) where
  early : (n : ℕ) → 2 ≤ n → n < length xs + 2 → names n (take (n - 1) xs) ≡ false
  early n two less = elim (cases_Bool (names n (take (n - 1) xs))) [
    | inr e ↦ e
    | inl e ↦
        let w = (names_decides n (take (n - 1) xs)).0 e in
        let k = w.0 in
        let kn : k < n - 1 = omega (arith, w.1, length-take-le (n - 1) xs (omega arith)) in
        let i : k + 2 - 2 ≡ k = omega arith in
        let e0 : get_or (take (n - 1) xs) k blank ≡ at xs (k + 2) = get_or-take (n - 1) xs k blank kn ∙ ap (λ (j : ℕ). get_or xs j blank) (sym i) in
        let p = o (k + 2) (omega arith) (omega arith) in
        let q : Parent n (at xs (k + 2)) = subst (Parent n) e0 (w.2 blank) in
        absurd (⊎_elim (λ (l : (at xs (k + 2)).low ≡ n). omega arith) (λ (l : (at xs (k + 2)).high ≡ n). omega arith) q)
  ]

  pub later : (n : ℕ) → 2 ≤ n → n < length xs + 2 → names n (drop (n - 1) xs) ≡ names n xs
  later n two less =
      sym (ap (names n) (sym (take-append-drop (n - 1) xs)) ∙ names-append n (take (n - 1) xs) (drop (n - 1) xs) ∙ ap (λ (b : Bool). b || names n (drop (n - 1) xs)) (early n two less))

never : (n : ℕ) (ys : List Node) → names n ys ≡ false → cond (names n ys) (unnamed (n + 1) ys) (Some n) ≡ None → ⊥
never n ys is e =
    let f = cond-false (names n ys) (unnamed (n + 1) ys) (Some n) is in
    let z : ◌≡◌ {A = ℕ} 0 1 = cc in
    omega arith

-- where the search stands at n, by whether a node names it
module _ (m : ℕ) (xs : List Node) (o : Ordered m xs (length xs)) (n : ℕ) (two : 2 ≤ n) (less : n < length xs + 1) where
  turn : (b : Bool) → names n xs ≡ b → unnamed n (drop (n - 2) xs) ≡ cond b (unnamed (n + 1) (drop (n + 1 - 2) xs)) (Some n)
  turn b e =
      let i : n - 2 + 1 ≡ n + 1 - 2 = omega arith in
      let j : n - 2 + 1 ≡ n - 1 = omega arith in
      unnamed-more xs n (n - 2) (omega arith)
      ∙ ap (λ (t : Bool). cond t (unnamed (n + 1) (drop (n - 2 + 1) xs)) (Some n)) (ap (λ (k : ℕ). names n (drop k xs)) j ∙ later m xs o n two (omega arith) ∙ e)
      ∙ ap (λ (k : ℕ). cond b (unnamed (n + 1) (drop k xs)) (Some n)) i

-- places that count from two more
position_from-added : (i : ℕ) (bs : List Bool) → option_map (λ k. k + 2) (position_from not i bs) ≡ position_from not (i + 2) bs
position_from-added i [] = refl
position_from-added i (b ∷ bs) = by b (position_from-added (i + 1) bs)
  where
    by : (b : Bool) → option_map (λ k. k + 2) (position_from not (i + 1) bs) ≡ position_from not (i + 1 + 2) bs → option_map (λ k. k + 2) (cond (not b) (Some i) (position_from not (i + 1) bs)) ≡ cond (not b) (Some (i + 2)) (position_from not (i + 2 + 1) bs)
    by false h = refl
    by true h = let e : i + 1 + 2 ≡ i + 2 + 1 = omega arith in h ∙ ap (λ k. position_from not k bs) e

-- the search from n on, by marks on the numbers that the nodes name
module _ (m : ℕ) (xs : List Node) (o : Ordered m xs (length xs)) (marks : List Bool) (long : length xs + 1 ≤ length marks) (named : (n : ℕ) → get_or marks n false ≡ names n xs) where
  position-unnamed : (k n : ℕ) → 2 ≤ n → k ≡ length xs + 1 - n → position_from not n (drop n (take (length xs + 1) marks)) ≡ unnamed n (drop (n - 2) xs)
  position-unnamed zero n two e =
      at_drop_all (position_from not n) (take (length xs + 1) marks) n (omega (arith, length-take-le (length xs + 1) marks long))
      ∙ sym (unnamed-none xs n (n - 2) (omega arith))
  position-unnamed (suc k) n two e =
      at_drop_more (position_from not n) (take (length xs + 1) marks) n false (omega (arith, length-take-le (length xs + 1) marks long))
      ∙ ap (λ (b : Bool). cond (not b) (Some n) rest) (get_or-take (length xs + 1) marks n false (omega arith))
      ∙ go (get_or marks n false) refl (position-unnamed k (n + 1) (omega arith) (omega arith))
    where
      rest : Option ℕ
      rest = position_from not (n + 1) (drop (n + 1) (take (length xs + 1) marks))

      go : (b : Bool) → get_or marks n false ≡ b → rest ≡ unnamed (n + 1) (drop (n + 1 - 2) xs) → cond (not b) (Some n) rest ≡ unnamed n (drop (n - 2) xs)
      go true h f = f ∙ sym (turn m xs o n two (omega arith) true (sym (named n) ∙ h))
      go false h f = sym (turn m xs o n two (omega arith) false (sym (named n) ∙ h))

  -- the first place after the ends without a mark
  pub first-unnamed : (r : Option ℕ) → r ≡ position not (drop 2 (take (length xs + 1) marks)) → option_map (λ i. i + 2) r ≡ unnamed 2 xs
  first-unnamed r is =
      let ms = drop 2 (take (length xs + 1) marks) in
      ap (option_map (λ i. i + 2)) (is ∙ position_from-zero not ms) ∙ position_from-added 0 ms ∙ position-unnamed (length xs + 1 - 2) 2 (omega arith) refl

-- where there is none, each node but the last has a later one that names it
named-at : (n : ℕ) (ys : List Node) → unnamed n ys ≡ None → (j : ℕ) → suc j < length ys → names (n + j) (drop (suc j) ys) ≡ true
named-at n [] e j h = absurd (omega arith)
named-at n (x ∷ []) e j h = absurd (omega arith)
named-at n (x ∷ y ∷ ys) e zero h = elim (cases_Bool (names n (y ∷ ys))) [
  | inl is ↦ let z : n + 0 ≡ n = omega arith in ap (λ (k : ℕ). names k (y ∷ ys)) z ∙ is
  | inr is ↦ absurd (never n (y ∷ ys) is e)
]
named-at n (x ∷ y ∷ ys) e (suc j) h = elim (cases_Bool (names n (y ∷ ys))) [
  | inl is ↦
      let z : n + suc j ≡ n + 1 + j = omega arith in
      let f : unnamed (n + 1) (y ∷ ys) ≡ None = sym (cond-true (names n (y ∷ ys)) (unnamed (n + 1) (y ∷ ys)) (Some n) is) ∙ e in
      ap (λ (k : ℕ). names k (drop (suc j) (y ∷ ys))) z ∙ named-at (n + 1) (y ∷ ys) f j (omega arith)
  | inr is ↦ absurd (never n (y ∷ ys) is e)
]

-- so that each is come to from the last
module _ (xs : List Node) (all : unnamed 2 xs ≡ None) where
  namer : (n : ℕ) → 2 ≤ n → n < length xs + 1 → (p : ℕ) × (n < p) × (p < length xs + 2) × Parent n (at xs p)
  namer n two less =
      let j : 2 + (n - 2) ≡ n = omega arith in
      let e : names n (drop (suc (n - 2)) xs) ≡ true = ap (λ (k : ℕ). names k (drop (suc (n - 2)) xs)) (sym j) ∙ named-at 2 xs all (n - 2) (omega arith) in
      let w = (names_decides n (drop (suc (n - 2)) xs)).0 e in
      let k = w.0 in
      let inside : suc (n - 2) + k < length xs = omega (arith, w.1, length-drop (suc (n - 2)) xs) in
      let p : ℕ = suc (n - 2) + k + 2 in
      let i : suc (n - 2) + k + 2 - 2 ≡ suc (n - 2) + k = omega arith in
      let e0 : get_or (drop (suc (n - 2)) xs) k blank ≡ at xs (suc (n - 2) + k + 2) = get_or-drop (suc (n - 2)) xs k blank ∙ ap (λ (j : ℕ). get_or xs j blank) (sym i) in
      (suc (n - 2) + k + 2, omega arith, omega arith, subst (Parent n) e0 (w.2 blank))

  come : (f n : ℕ) → length xs + 1 ≤ n + f → 2 ≤ n → n < length xs + 2 → Reach xs (length xs + 1) n
  come zero n far two less = let e : length xs + 1 ≡ n = omega arith in subst (Reach xs (length xs + 1)) e start
  come (suc f) n far two less = elim (cases_lt n (length xs + 1)) [
    | inr h ↦ let e : length xs + 1 ≡ n = omega arith in subst (Reach xs (length xs + 1)) e start
    | inl h ↦
        let w = namer n two h in
        let r = come f w.0 (omega (arith, w.1)) (omega (arith, w.1)) w.2 in
        let q : Parent n (at xs w.0) = w.3 in
        ⊎_elim (λ (l : (at xs w.0).low ≡ n). subst (Reach xs (length xs + 1)) l (to_low (omega (arith, w.1)) r)) (λ (l : (at xs w.0).high ≡ n). subst (Reach xs (length xs + 1)) l (to_high (omega (arith, w.1)) r)) q
  ]

  pub reached-last : Reached xs (length xs) (length xs + 1)
  reached-last n two less = ∣ come (length xs + 1) n (omega arith) two less ∣₁

-- the root: the number of the last node, or an end where there is none
pub top-none : (ys : List Node) (one : Bool) → length ys ≡ 0 → top ys one ≡ cond one 1 0
top-none [] one h = refl
top-none (y ∷ ys) one h = absurd (omega arith)

pub top-last : (ys : List Node) (one : Bool) → 0 < length ys → top ys one ≡ length ys + 1
top-last [] one h = absurd (omega arith)
top-last (y ∷ ys) one h = refl

module _ (xs : List Node) (one : Bool) where
  pub top-there : top xs one < length xs + 2
  top-there = elim (cases_lt 0 (length xs)) [
    | inl h ↦ omega (arith, top-last xs one (omega arith))
    | inr h ↦
        let z : cond one 1 0 < 2 = elim one as (λ b. cond b 1 0 < 2) [ true ↦ omega arith | false ↦ omega arith ] in
        omega (arith, top-none xs one (omega arith))
  ]

  pub reached-top : unnamed 2 xs ≡ None → Reached xs (length xs) (top xs one)
  reached-top all = elim (cases_lt 0 (length xs)) [
    | inl h ↦
        let e : top xs one ≡ length xs + 1 = top-last xs one (omega arith) in
        let P : ℕ → Type 0 = λ r. Reached xs (length xs) r in
        subst P (sym e) (reached-last xs all)
    | inr h ↦ λ n two less. absurd (omega arith)
  ]
