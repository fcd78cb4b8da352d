-- The bit of the last cell, in the last place.
use Rattle.std.proofs.Common.{◌≡◌, ℕ, suc, ◌-◌, false, Bool, List, [], ◌∷◌, length, take, drop, refl, ap, ◌∙◌, arith}
use Rattle.std.proofs.lemmas.List.{take_all, length-drop}
use Rattle.std.specs.List.{slice_get}
use Rattle.std.specs.Option.{unwrap_or}
use Rattle.intake.specs.Networks.{last}

last_of : (xs : List Bool) → unwrap_or (slice_get xs (length xs - 1)) false ≡ last xs
last_of [] = refl
last_of (x ∷ []) = refl
last_of (x ∷ y ∷ xs) =
    let n : length (x ∷ y ∷ xs) - 1 ≡ suc (length (y ∷ xs) - 1) = omega arith in
    ap (λ k. unwrap_or (slice_get (x ∷ y ∷ xs) k) false) n ∙ last_of (y ∷ xs)

pub closing_bit : (xs : List Bool) (n : ℕ) → n ≡ length xs - 16 → unwrap_or (slice_get (take n (drop 16 xs)) (length (take n (drop 16 xs)) - 1)) false ≡ last (drop 16 xs)
closing_bit xs n e =
    let whole = take_all n (drop 16 xs) (omega (arith, length-drop 16 xs)) in
    ap (λ ys. unwrap_or (slice_get ys (length ys - 1)) false) whole ∙ last_of (drop 16 xs)
