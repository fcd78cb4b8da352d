-- Tables packed into bytes, and bytes put into frames.
use Rattle.std.proofs.Common.{◌≡◌, ℕ, suc, ◌+◌, ◌*◌, ◌%◌, ◌^◌, ◌<◌, ◌≤◌, min, Bool, true, false, cond, List, [], ◌∷◌, ◌++◌, map, reverse, length, get_or, take, drop, sym, refl, ap, ◌∙◌, inl, inr, mul-le-mul_right, suc-mul, add-one, arith, pow_mono}
use native.Mathlib.Nat.{two-pow-succ}
use Rattle.std.proofs.lemmas.Nat.{one_shl}
use Rattle.std.proofs.lemmas.List.{append_assoc, length-append, length-drop, length-map, length-reverse, length-take-le, map_push, reverse-append, drop-drop, drop_all, drop_at, take_all, take_at, take_more}
use Rattle.std.proofs.lemmas.Bool.{cases_lt}
use Rattle.functions.specs.Words.{number}
use Rattle.bitpages.specs.Table.{size, share, count, parts, byte_of}
use Rattle.bitpages.proofs.Entries.{byte_of-below}
use Rattle.bitpages.proofs.Parts.{length-parts, parts_more}
use Rattle.bitpages.proofs.Sizes.{share-low, whole}

-- a byte with one entry more
number_cons : (b : Bool) (xs : List Bool) → number (b ∷ xs) ≡ number xs + cond b (2 ^ length xs) 0
number_cons true xs = omega arith
number_cons false xs = omega arith

module _ (es : List Bool) (j : ℕ) (h : j < length es) where
  byte_of-more : byte_of (take (j + 1) es) ≡ byte_of (take j es) + cond (get_or es j false) (2 ^ j) 0
  byte_of-more =
      let l : length (reverse (take j es)) ≡ j = length-reverse (take j es) ∙ length-take-le j es (omega arith) in
      ap byte_of (take_more es j false h)
      ∙ ap number (reverse-append (take j es) (get_or es j false ∷ []))
      ∙ number_cons (get_or es j false) (reverse (take j es))
      ∙ ap (λ (k : ℕ). byte_of (take j es) + cond (get_or es j false) (2 ^ k) 0) l

  pub byte_of-set : (w : ℕ) → get_or es j false ≡ true → w ≡ byte_of (take j es) → length es ≤ 8 → (w + (1 * 2 ^ j) % 256 ≡ byte_of (take (j + 1) es)) × (w + (1 * 2 ^ j) % 256 < 256)
  byte_of-set w e is short =
      let m = rw e at byte_of-more in
      let k : suc j ≤ 8 = omega arith in
      let s : (1 * 2 ^ j) % 256 ≡ 2 ^ j = one_shl j 8 (omega arith) in
      let b = byte_of-below (take j es) j (omega (arith, length-take-le j es (omega arith))) in
      (omega arith, omega (arith, pow_mono k, two-pow-succ j))

  pub byte_of_skip : get_or es j false ≡ false → byte_of (take j es) ≡ byte_of (take (j + 1) es)
  byte_of_skip e = let m = rw e at byte_of-more in omega arith

-- a part at the front of a list, and what is left after it
module _ {X : Type 0} (s : ℕ) (rest part more : List X) (cut : rest ≡ part ++ more) (long : length part ≡ min s (length rest)) where
  part-front : part ≡ take s rest
  part-front =
      let e : take (length part) rest ≡ part = ap (take (length part)) cut ∙ take_at part more (length part) refl in
      sym e ∙ elim (cases_lt (length rest) s) [
        | inl few ↦ take_all (length part) rest (omega arith) ∙ sym (take_all s rest (omega arith))
        | inr many ↦ let l : length part ≡ s = omega arith in ap (λ (k : ℕ). take k rest) l
      ]

  part-past : more ≡ drop s rest
  part-past =
      let e : drop (length part) rest ≡ more = ap (drop (length part)) cut ∙ drop_at part more (length part) refl in
      sym e ∙ elim (cases_lt (length rest) s) [
        | inl few ↦ drop_all (length part) rest (omega arith) ∙ sym (drop_all s rest (omega arith))
        | inr many ↦ let l : length part ≡ s = omega arith in ap (λ (k : ℕ). drop k rest) l
      ]

  -- where the list is what is left after k such parts of another
  module _ (k : ℕ) (xs : List X) (at : rest ≡ drop (k * s) xs) where
    pub part_is : part ≡ take s (drop (k * s) xs)
    part_is = part-front ∙ ap (take s) at

    pub part_rest : more ≡ drop ((k + 1) * s) xs
    part_rest = let e : k * s + s ≡ (k + 1) * s = omega (arith, ap (λ (j : ℕ). j * s) (add-one k), suc-mul k s) in part-past ∙ ap (drop s) at ∙ drop-drop s (k * s) xs ∙ ap (λ (j : ℕ). drop j xs) e

-- a whole part at the front is as long as a part there can be
pub front-long : {X : Type 0} (s : ℕ) (rest part more : List X) → rest ≡ part ++ more → length part ≡ s → length part ≡ min s (length rest)
front-long s rest part more cut long = omega (arith, ap length cut, length-append part more)

-- one part more, where f is what an element is of the parts
pub part_push : {X Y Z : Type 0} (f : Y → Z) (g : List X → Z) (s k : ℕ) (xs : List X) (ys : List Y) (y : Y) (front : List Z) → map f ys ≡ front ++ map g (parts s k xs) → f y ≡ g (take s (drop (k * s) xs))
    → map f (ys ++ (y ∷ [])) ≡ front ++ map g (parts s (k + 1) xs)
part_push {X} {Y} {Z} f g s k xs ys y front before is =
    map_push f ys y
    ∙ ap (λ (zs : List Z). zs ++ (f y ∷ [])) before
    ∙ ap (λ (z : Z). (front ++ map g (parts s k xs)) ++ (z ∷ [])) is
    ∙ append_assoc front (map g (parts s k xs)) _
    ∙ ap (λ (zs : List Z). front ++ zs) (sym (map_push g (parts s k xs) (take s (drop (k * s) xs))) ∙ ap (map g) (sym (parts_more s k xs)))

-- and then there are as many elements more as parts
pub parts_long : {X Y Z : Type 0} (f : Y → Z) (g : List X → Z) (s k : ℕ) (xs : List X) (ys zs : List Y) → map f ys ≡ map f zs ++ map g (parts s k xs) → length ys ≡ length zs + k
parts_long f g s k xs ys zs is =
    sym (length-map ys f) ∙ ap length is ∙ length-append (map f zs) (map g (parts s k xs)) ∙ omega (arith, length-map zs f, length-map (parts s k xs) g, length-parts s k xs)

-- every share lies within the bytes
pub share-room : (n k : ℕ) → k < count n → k * share n + share n ≤ size n
share-room n k h = omega (arith, mul-le-mul_right (share n) h, suc-mul k (share n), whole n)

-- and a share at the front of what is left after k others is one of those that are counted
pub share-next : (n k : ℕ) (bs rest part more : List ℕ) → length bs ≡ size n → rest ≡ drop (k * share n) bs → rest ≡ part ++ more → length part ≡ share n → k < count n
share-next n k bs rest part more long at cut wide = elim (cases_lt k (count n)) [
  | inl l ↦ l
  | inr l ↦ absurd (omega (arith, length-drop (k * share n) bs, ap length at, ap length cut, length-append part more, mul-le-mul_right (share n) l, whole n, share-low n))
]

-- after which there are all where no share is left
pub share-last : (n k : ℕ) (bs rest : List ℕ) → length bs ≡ size n → rest ≡ drop (k * share n) bs → length rest < share n → k ≤ count n → k ≡ count n
share-last n k bs rest long at short most = elim (cases_lt k (count n)) [
  | inl l ↦ absurd (omega (arith, length-drop (k * share n) bs, ap length at, share-room n k l))
  | inr l ↦ omega arith
]
