-- Lists cut into parts of one length.
use Rattle.std.proofs.Common.{◌≡◌, ℕ, zero, suc, ◌+◌, ◌*◌, ◌<◌, List, [], ◌∷◌, ◌++◌, length, get_or, take, drop, sym, refl, ap, ◌∙◌, suc-mul, zero-mul, add-one, arith}
use Rattle.std.proofs.lemmas.List.{drop-drop}
use Rattle.bitpages.specs.Table.{parts}

module _ {X : Type 0} (s : ℕ) where
  pub length-parts : (k : ℕ) (xs : List X) → length (parts s k xs) ≡ k
  length-parts zero xs = refl
  length-parts (suc k) xs = ap suc (length-parts k (drop s xs))

  part_first : (xs : List X) → take s xs ≡ take s (drop (0 * s) xs)
  part_first xs = ap (λ (j : ℕ). take s (drop j xs)) (sym (zero-mul s))

  part_next : (i : ℕ) (xs : List X) → take s (drop (i * s) (drop s xs)) ≡ take s (drop (suc i * s) xs)
  part_next i xs = let e : s + i * s ≡ suc i * s = omega (arith, suc-mul i s) in ap (take s) (drop-drop (i * s) s xs) ∙ ap (λ (j : ℕ). take s (drop j xs)) e

  pub get_or-parts : (k : ℕ) (xs : List X) (i : ℕ) (d : List X) → i < k → get_or (parts s k xs) i d ≡ take s (drop (i * s) xs)
  get_or-parts zero xs i d h = absurd (omega arith)
  get_or-parts (suc k) xs zero d h = part_first xs
  get_or-parts (suc k) xs (suc i) d h = get_or-parts k (drop s xs) i d (omega arith) ∙ part_next i xs

  parts_push : (k : ℕ) (xs : List X) → parts s (suc k) xs ≡ parts s k xs ++ (take s (drop (k * s) xs) ∷ [])
  parts_push zero xs = ap (λ (p : List X). p ∷ []) (part_first xs)
  parts_push (suc k) xs = ap (λ (ps : List (List X)). take s xs ∷ ps) (parts_push k (drop s xs) ∙ ap (λ (p : List X). parts s k (drop s xs) ++ (p ∷ [])) (part_next k xs))

  pub parts_more : (k : ℕ) (xs : List X) → parts s (k + 1) xs ≡ parts s k xs ++ (take s (drop (k * s) xs) ∷ [])
  parts_more k xs = ap (λ (j : ℕ). parts s j xs) (add-one k) ∙ parts_push k xs
