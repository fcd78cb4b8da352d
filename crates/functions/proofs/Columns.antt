-- The columns of a function, by the number of the bound assignment.
use Rattle.std.proofs.Common.{◌≡◌, ℕ, zero, suc, ◌+◌, ◌-◌, ◌^◌, ◌<◌, ◌≤◌, Bool, true, false, List, length, get_or, sym, refl, ap, ◌∙◌, inl, inr, arith}
use native.Mathlib.Nat.{two-pow-succ}
use Rattle.std.specs.List.{AllByRecursion as All}
use Rattle.std.proofs.ByRecursion.{All-append}
use Rattle.std.proofs.lemmas.List.{length-append, get_or_append_left, get_or-append_right}
use Rattle.std.proofs.lemmas.Bool.{cases_lt}
use Rattle.functions.specs.Words.{number, bits}
use Rattle.functions.specs.Functions.{Fn, Arity, cofactor, under}
use Rattle.functions.specs.Classes.{columns}
use Rattle.functions.proofs.Words.{number_below, bits-low, bits-high, bits_number}
use Rattle.functions.proofs.Values.{arity-cofactor}

pub length_columns : (b : ℕ) (f : Fn) → length (columns b f) ≡ 2 ^ b
length_columns zero f = refl
length_columns (suc b) f = rw (length-append, length_columns b (cofactor false f), length_columns b (cofactor true f), two-pow-succ)

pub column_at : (b i : ℕ) (f d : Fn) → i < 2 ^ b → get_or (columns b f) i d ≡ under f (bits b i)
column_at zero i f d h = let none : i ≡ 0 = omega arith in rw none
column_at (suc b) i f d h =
    let low = columns b (cofactor false f) in
    let high = columns b (cofactor true f) in
    let half = length_columns b (cofactor false f) in
    elim (cases_lt i (2 ^ b)) [
      | inl l ↦ get_or_append_left low high d i (omega arith) ∙ column_at b i (cofactor false f) d l ∙ ap (under f) (sym (bits-low b i l))
      | inr l ↦
          let back : 2 ^ b + (i - 2 ^ b) ≡ i = omega arith in
          let rest : i - 2 ^ b < 2 ^ b = omega (arith, two-pow-succ b) in
          get_or-append_right low high (2 ^ b) i d half l ∙ column_at b (i - 2 ^ b) (cofactor true f) d rest ∙ ap (under f) (sym (bits-high b (i - 2 ^ b) rest) ∙ ap (bits (suc b)) back)
    ]

-- the column of a bound assignment stands at the assignment's number
pub column_of : (b : ℕ) (f d : Fn) (xs : List Bool) → length xs ≡ b → get_or (columns b f) (number xs) d ≡ under f xs
column_of b f d xs e = rw (← e) (column_at (length xs) (number xs) f d (number_below xs) ∙ ap (under f) (bits_number xs))

pub arity_columns : (m b : ℕ) (f : Fn) → Arity m f → b ≤ m → All (Arity (m - b)) (columns b f)
arity_columns m zero f a h = let e : m - 0 ≡ m = omega arith in rw e (a, tt)
arity_columns zero (suc b) f a h = absurd (omega arith)
arity_columns (suc m) (suc b) f a h =
    let e : suc m - suc b ≡ m - b = omega arith in
    let side : (x : Bool) → All (Arity (m - b)) (columns b (cofactor x f)) = λ x. arity_columns m b (cofactor x f) (arity-cofactor m f x a) (omega arith) in
    rw e (All-append (Arity (m - b)) (columns b (cofactor false f)) (columns b (cofactor true f)) (side false) (side true))
