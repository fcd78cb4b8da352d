-- The values of a function at the first numbers, one after another.
use Rattle.std.proofs.Common.{◌≡◌, ℕ, ◌+◌, List, [], ◌∷◌, ◌++◌, map, length, sym, ap, ◌∙◌, arith}
use Rattle.std.specs.List.{range_with_len}
use Rattle.std.proofs.lemmas.List.FromFn.{length-map-range_with_len, map-range_with_len_more}

module _ {X : Type 0} (f : ℕ → X) (i : ℕ) (xs : List X) (is : xs ≡ map f (range_with_len 0 i)) where
  pub length_first : length xs ≡ i
  length_first = ap length is ∙ length-map-range_with_len f 0 i

  -- one more
  pub first_push : (x : X) → x ≡ f i → xs ++ (x ∷ []) ≡ map f (range_with_len 0 (i + 1))
  first_push x q = ap (λ ys. ys ++ (x ∷ [])) is ∙ ap (λ y. map f (range_with_len 0 i) ++ (y ∷ [])) q ∙ sym (map-range_with_len_more f 0 i i (omega arith))
