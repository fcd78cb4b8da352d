-- Lists of places, one for each class: looking for a class, and one place more.
use Rattle.std.proofs.Common.{◌≡◌, ℕ, zero, suc, ◌+◌, ◌-◌, ◌<◌, ◌≤◌, List, [], ◌∷◌, ◌++◌, map, length, take, drop, cond, ltb, Some, None, Option, refl, sym, ap, ◌∙◌, inl, inr, add-one, arith}
use Rattle.std.proofs.lemmas.List.{append_assoc, length-append, length-drop, length-map, length_push, length-take-le, take-append-drop, take_at, drop-drop, set_split, map_push}
use Rattle.std.specs.List.{position, position_or_len}
use Rattle.std.proofs.lemmas.List.Recursion.{is_position_or_len}
use Rattle.std.proofs.Math.Seq.{drop-append-add}
use Rattle.std.proofs.lemmas.Bool.{lt-ltb, cases_Bool}
use Rattle.std.proofs.lemmas.Bool.Decides.{nat_tests}
use Rattle.functions.specs.Functions.{Fn}
use Rattle.functions.specs.Classes.{same_fn, among, place_of, noted}
use Rattle.charts.specs.ClassLists.{Found, Noted, joined_by, first_places, laid}

-- ---- looking for the class of p among the first n places

test-suc : (m n : ℕ) → ltb m n ≡ ltb (suc m) (suc n)
test-suc m n = grind (arith, nat_tests)

among_is : (f : Fn) (gs : List Fn) → among f gs ≡ ltb (place_of f gs) (length gs)
among_is f [] = refl
among_is f (g ∷ gs) = elim (cases_Bool (same_fn g f)) [
  | inl e ↦ rw e (sym (lt-ltb 0 (suc (length gs)) (omega arith)))
  | inr e ↦ rw (e, among_is f gs) (test-suc (place_of f gs) (length gs))
]

module _ {P : Type 0} (mean : P → Fn) (p : P) where
  place_is : (xs : List P) → place_of (mean p) (map mean xs) ≡ position_or_len (λ x. same_fn (mean x) (mean p)) xs
  place_is = is_position_or_len (λ xs. place_of (mean p) (map mean xs)) (λ x. same_fn (mean x) (mean p)) refl (λ x xs. ap (cond (same_fn (mean x) (mean p)) 0) (omega arith))

  pub found : (xs : List P) (r : Option ℕ) → r ≡ position (λ x. same_fn (mean x) (mean p)) xs → Found mean p xs r
  found xs r e =
      let fs = map mean xs in
      let at = place_is xs in
      let here : among (mean p) fs ≡ ltb (position_or_len (λ x. same_fn (mean x) (mean p)) xs) (length xs) = among_is (mean p) fs ∙ rw (at, length-map) in
      elim (cases_Bool (among (mean p) fs)) [
        | inl t ↦ rw (e, ← here, t) (t, sym at)
        | inr t ↦ rw (e, ← here, t) t
      ]

-- ---- places at the front of a strip

pub take-laid : {P : Type 0} (ps zs : List P) (n : ℕ) → n ≡ length ps → take n (laid ps zs) ≡ ps
take-laid ps zs n e = take_at ps (drop (length ps) zs) n (sym e)

length-laid : {P : Type 0} (ps zs : List P) → length ps ≤ length zs → length (laid ps zs) ≡ length zs
length-laid ps zs h = rw (length-append, length-drop) (omega arith)

-- a longer list over a shorter one
laid-laid : {P : Type 0} (ps qs zs : List P) → length ps ≤ length qs → laid qs (laid ps zs) ≡ laid qs zs
laid-laid ps qs zs h =
    let k : length ps + (length qs - length ps) ≡ length qs = omega arith in
    ap (λ rest. qs ++ rest)
    (ap (λ n. drop n (laid ps zs)) (sym k) ∙ drop-append-add ps (drop (length ps) zs) (length qs - length ps) ∙ drop-drop (length qs - length ps) (length ps) zs ∙ ap (λ n. drop n zs) k)

-- ---- one place more

module _ {P : Type 0} (mean : P → Fn) where
  -- the list grows by one at most
  joined_grows : (ps : List P) (p : P) → length ps ≤ length (joined_by mean ps p)
  joined_grows ps p = elim (cases_Bool (among (mean p) (map mean ps))) [
    | inl t ↦ rw t (omega arith)
    | inr t ↦ rw (t, length_push ps p) (omega arith)
  ]

  joined_little : (ps : List P) (p : P) → length (joined_by mean ps p) ≤ length ps + 1
  joined_little ps p = elim (cases_Bool (among (mean p) (map mean ps))) [
    | inl t ↦ rw t (omega arith)
    | inr t ↦ rw (t, length_push ps p) (omega arith)
  ]

  pub joined-means : (ps : List P) (p : P) → map mean (joined_by mean ps p) ≡ noted (map mean ps) (mean p)
  joined-means ps p = elim (cases_Bool (among (mean p) (map mean ps))) [
    | inl t ↦ rw t
    | inr t ↦ rw t (map_push mean ps p)
  ]

  length-first : (at : ℕ → P) (n : ℕ) → length (first_places mean at n) ≤ n
  length-first at zero = omega arith
  length-first at (suc n) = omega (arith, joined_little (first_places mean at n) (at n), length-first at n)

  -- where there is room, the noted place joins the list at the front of the strip
  noted_joins : (p : P) (k : ℕ) (xs : List P) (l : ℕ) (ys : List P) (r : Option ℕ) → k < length xs → Noted mean p k xs l ys r →
      (l ≡ length (joined_by mean (take k xs) p)) × (ys ≡ laid (joined_by mean (take k xs) p) xs)
  noted_joins p k xs l ys None room full = absurd (omega (arith, full.room))
  noted_joins p k xs l ys (Some i) room (inl old) =
      let front = length-take-le k xs (omega arith) in
      rw (old.seen.0, front) (old.count, old.strip ∙ sym (take-append-drop k xs))
  noted_joins p k xs l ys (Some i) room (inr new) =
      let front = length-take-le k xs (omega arith) in
      rw (new.unseen, length_push (take k xs) p, front) (
        new.count,
        rw (add-one k, append_assoc (take k xs) (p ∷ []) (drop (suc k) xs)) (new.strip ∙ set_split xs k p room),
      )

  -- the first places of n + 1 from those of n: zs is the strip as it was lent, xs and k the list so far, ys and l after
  pub noted_more : (at : ℕ → P) (n k l : ℕ) (p : P) (strip zs xs ys : List P) (r : Option ℕ) → p ≡ at n → zs ≡ strip → n < length strip → k ≡ length (first_places mean at n) → xs ≡ laid (first_places mean at n) zs →
      Noted mean p k xs l ys r → (l ≡ length (first_places mean at (n + 1))) × (ys ≡ laid (first_places mean at (n + 1)) zs)
  noted_more at n k l p strip zs xs ys r here lent more count is noted =
      let firsts = first_places mean at n in
      let few = length-first at n in
      let long : length zs ≡ length strip = ap length lent in
      let room : k < length xs = omega (arith, ap length is ∙ length-laid firsts zs (omega arith)) in
      let so_far : take k xs ≡ firsts = rw is (take-laid firsts zs k count) in
      let joins = noted_joins (at n) k xs l ys r room (rw here at noted) in
      rw add-one (
        joins.0 ∙ ap (λ ps. length (joined_by mean ps (at n))) so_far,
        joins.1 ∙ ap (λ ps. laid (joined_by mean ps (at n)) xs) so_far ∙ ap (laid (joined_by mean firsts (at n))) is ∙ laid-laid firsts (joined_by mean firsts (at n)) zs (joined_grows firsts (at n)),
      )
