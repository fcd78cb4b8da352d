-- The live signals after a split.
use Rattle.std.proofs.Common.{◌≡◌, ℕ, ◌+◌, ◌-◌, ◌<◌, ◌≤◌, List, [], ◌∷◌, ◌++◌, length, take, drop, set, sym, refl, ap, ◌∙◌, arith}
use Rattle.std.specs.List.{range_with_len}
use Rattle.std.proofs.lemmas.List.FromFn.{map-range_with_len_more}
use Rattle.std.proofs.lemmas.List.{length-append, length-drop, map-id, take_all, take_at, take_more_set}
use Rattle.std.proofs.lemmas.Slice.{take-put_mid}
use borrow.Rule.Slice.PartMut.{put_mid}

-- the new signals, one more
pub range_push : (first i : ℕ) (xs : List ℕ) → i < length xs → take i xs ≡ range_with_len first i → take (i + 1) (set xs i (first + i)) ≡ range_with_len first (i + 1)
range_push first i xs h is =
    take_more_set xs i (first + i) h
    ∙ ap (λ ys. ys ++ ((first + i) ∷ [])) (is ∙ sym (map-id (range_with_len first i)))
    ∙ sym (map-range_with_len_more (λ k. k) first i (first + i) refl)
    ∙ map-id (range_with_len first (i + 1))

-- the new signals, and then the free ones
pub live_row : (live news blank : List ℕ) (b j first : ℕ) → j < b → b ≤ length live → length live ≤ 16 → length news ≡ j → length blank ≡ 16 → take j news ≡ range_with_len first j →
    take (length live - b + j) (put_mid j (length live - b + j - j) (news ++ drop j blank) (drop b live)) ≡ range_with_len first j ++ drop b live
live_row live news blank b j first fewer fits small long wide is =
    take-put_mid j (length live - b + j - j) (news ++ drop j blank) (drop b live) (length live - b + j) (omega (arith, length-drop b live)) (omega (arith, length-append news (drop j blank)))
    ∙ ap (λ xs. xs ++ drop b live) (take_at news (drop j blank) j long ∙ sym (take_all j news (omega arith)) ∙ is)
