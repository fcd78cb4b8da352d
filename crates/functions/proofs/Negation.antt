-- Negation against values, columns, classes, exchange and codes.
use Rattle.std.proofs.Common.{◌≡◌, ℕ, zero, suc, ◌+◌, ◌^◌, ◌<◌, Bool, true, false, not, List, [], ◌∷◌, map, length, get_or, fold, refl, ap, ◌∙◌, inl, inr}
use mathlib.Core.Bool.{beq}
use Rattle.std.proofs.lemmas.List.{map-append, map_push, get_or-map}
use Rattle.std.proofs.lemmas.Bool.{cases_Bool}
use Rattle.functions.specs.Functions.{Fn, bit, fork, Arity, value, cofactor, under, rows, negated, exchanged, recoded}
use Rattle.functions.specs.Classes.{columns, same_fn, among, place_of, noted, classes, class_of}
use Rattle.functions.proofs.Rows.{rows_same}

not_not : (b : Bool) → not (not b) ≡ b
not_not false = refl
not_not true = refl

pub value_negated : (f : Fn) (xs : List Bool) → value (negated f) xs ≡ not (value f xs)
value_negated (bit b) xs = refl
value_negated (fork z o) [] = value_negated z []
value_negated (fork z o) (false ∷ xs) = value_negated z xs
value_negated (fork z o) (true ∷ xs) = value_negated o xs

pub negated_twice : (f : Fn) → negated (negated f) ≡ f
negated_twice (bit b) = ap bit (not_not b)
negated_twice (fork z o) = rw (negated_twice z, negated_twice o)

pub arity_negated : (m : ℕ) (f : Fn) → Arity m f → Arity m (negated f)
arity_negated zero (bit b) a = a
arity_negated zero (fork z o) a = a
arity_negated (suc m) (bit b) a = a
arity_negated (suc m) (fork z o) a = (arity_negated m z a.0, arity_negated m o a.1)

cofactor-negated : (x : Bool) (f : Fn) → cofactor x (negated f) ≡ negated (cofactor x f)
cofactor-negated x (bit b) = refl
cofactor-negated false (fork z o) = refl
cofactor-negated true (fork z o) = refl

pub under-negated : (f : Fn) (xs : List Bool) → under (negated f) xs ≡ negated (under f xs)
under-negated f [] = refl
under-negated f (x ∷ xs) = rw (cofactor-negated x f) (under-negated (cofactor x f) xs)

pub columns_negated : (b : ℕ) (f : Fn) → columns b (negated f) ≡ map negated (columns b f)
columns_negated zero f = refl
columns_negated (suc b) f = rw (
  cofactor-negated false f,
  cofactor-negated true f,
  columns_negated b (cofactor false f),
  columns_negated b (cofactor true f),
  map-append negated (columns b (cofactor false f)) (columns b (cofactor true f)),
)

same_not : (a b : Bool) → beq (not a) (not b) ≡ beq a b
same_not false false = refl
same_not false true = refl
same_not true false = refl
same_not true true = refl

pub same-negated : (f g : Fn) → same_fn (negated f) (negated g) ≡ same_fn f g
same-negated (bit a) (bit b) = same_not a b
same-negated (bit a) (fork y p) = refl
same-negated (fork z o) (bit b) = refl
same-negated (fork z o) (fork y p) = rw (same-negated z y, same-negated o p)

among-negated : (f : Fn) (gs : List Fn) → among (negated f) (map negated gs) ≡ among f gs
among-negated f [] = refl
among-negated f (g ∷ gs) = rw (same-negated g f, among-negated f gs)

pub place_negated : (f : Fn) (gs : List Fn) → place_of (negated f) (map negated gs) ≡ place_of f gs
place_negated f [] = refl
place_negated f (g ∷ gs) = rw (same-negated g f, place_negated f gs)

noted-negated : (gs : List Fn) (f : Fn) → noted (map negated gs) (negated f) ≡ map negated (noted gs f)
noted-negated gs f = rw (among-negated f gs) (elim (cases_Bool (among f gs)) [
  | inl t ↦ rw t
  | inr t ↦ rw (t, map_push negated gs f)
])

folded_negated : (fs gs : List Fn) → fold noted (map negated gs) (map negated fs) ≡ map negated (fold noted gs fs)
folded_negated [] gs = refl
folded_negated (f ∷ fs) gs = ap (λ hs. fold noted hs (map negated fs)) (noted-negated gs f) ∙ folded_negated fs (noted gs f)

pub classes_negated : (fs : List Fn) → classes (map negated fs) ≡ map negated (classes fs)
classes_negated fs = folded_negated fs []

pub class_of_negated : (b : ℕ) (f : Fn) (xs : List Bool) → class_of b (negated f) xs ≡ class_of b f xs
class_of_negated b f xs = rw (under-negated f xs, columns_negated b f, classes_negated (columns b f)) (place_negated (under f xs) (classes (columns b f)))

pub exchanged_negated : (p : ℕ) (f : Fn) → exchanged p (negated f) ≡ negated (exchanged p f)
exchanged_negated zero f = simp cofactor-negated
exchanged_negated (suc p) (bit b) = refl
exchanged_negated (suc p) (fork z o) = rw (exchanged_negated p z, exchanged_negated p o)

pub rows-negated : (j : ℕ) (r : ℕ → Fn) → rows j (λ i. negated (r i)) ≡ negated (rows j r)
rows-negated zero r = refl
rows-negated (suc j) r = rw (rows-negated j r, rows-negated j (λ i. r (2 ^ j + i)))

pub recoded_negated : (j : ℕ) (cs : List Fn) (class : ℕ → ℕ) → ((q : ℕ) → q < 2 ^ j → class q < length cs) →
    recoded j (map negated cs) class ≡ negated (recoded j cs class)
recoded_negated j cs class h =
    rows_same j (λ q. get_or (map negated cs) (class q) (bit false)) (λ q. negated (get_or cs (class q) (bit false))) (λ q l. get_or-map negated cs (class q) (bit false) (bit false) (h q l))
    ∙ rows-negated j (λ q. get_or cs (class q) (bit false))
