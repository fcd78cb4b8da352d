-- Values, arities and equality of functions, and the exchange of two arguments.
use Rattle.std.proofs.Common.{◌≡◌, ℕ, zero, suc, ◌+◌, ◌-◌, ◌<◌, ◌≤◌, Bool, true, false, List, [], ◌∷◌, ◌++◌, length, Decides, sym, refl, ap, ◌∙◌, arith}
use mathlib.Core.Bool.{false≢true, beq}
use Rattle.std.proofs.lemmas.Bool.{and_parts}
use Rattle.std.proofs.lemmas.List.{append-nil}
use Rattle.functions.specs.Words.{swapped}
use Rattle.functions.specs.Functions.{Fn, bit, fork, Arity, value, cofactor, under, exchanged}
use Rattle.functions.specs.Classes.{same_fn}

value-cofactor : (f : Fn) (x : Bool) (xs : List Bool) → value f (x ∷ xs) ≡ value (cofactor x f) xs
value-cofactor (bit b) x xs = refl
value-cofactor (fork z o) false xs = refl
value-cofactor (fork z o) true xs = refl

pub value_under : (f : Fn) (xs ys : List Bool) → value f (xs ++ ys) ≡ value (under f xs) ys
value_under f [] ys = refl
value_under f (x ∷ xs) ys = value-cofactor f x (xs ++ ys) ∙ value_under (cofactor x f) xs ys

pub arity-cofactor : (m : ℕ) (f : Fn) (x : Bool) → Arity (suc m) f → Arity m (cofactor x f)
arity-cofactor m (bit b) x a = absurd a
arity-cofactor m (fork z o) false a = a.0
arity-cofactor m (fork z o) true a = a.1

pub arity_under : (m : ℕ) (f : Fn) (xs : List Bool) → Arity m f → length xs ≤ m → Arity (m - length xs) (under f xs)
arity_under m f [] a h = let e : m - 0 ≡ m = omega arith in rw e a
arity_under zero f (x ∷ xs) a h = absurd (omega arith)
arity_under (suc m) f (x ∷ xs) a h = let e : suc m - suc (length xs) ≡ m - length xs = omega arith in rw e (arity_under m (cofactor x f) xs (arity-cofactor m f x a) (omega arith))

pub one_arity : (m n : ℕ) (f : Fn) → Arity m f → Arity n f → m ≡ n
one_arity zero zero f a b = refl
one_arity zero (suc n) (bit v) a b = absurd b
one_arity zero (suc n) (fork z o) a b = absurd a
one_arity (suc m) zero (bit v) a b = absurd a
one_arity (suc m) zero (fork z o) a b = absurd b
one_arity (suc m) (suc n) (bit v) a b = absurd a
one_arity (suc m) (suc n) (fork z o) a b = ap suc (one_arity m n z a.0 b.0)

pub extensional : (m : ℕ) (f g : Fn) → Arity m f → Arity m g → ((xs : List Bool) → length xs ≡ m → value f xs ≡ value g xs) → f ≡ g
extensional zero (bit v) (bit w) a b h = ap bit (h [] refl)
extensional zero (bit v) (fork y p) a b h = absurd b
extensional zero (fork z o) g a b h = absurd a
extensional (suc m) (bit v) g a b h = absurd a
extensional (suc m) (fork z o) (bit w) a b h = absurd b
extensional (suc m) (fork z o) (fork y p) a b h =
    rw (extensional m z y a.0 b.0 (λ xs e. h (false ∷ xs) (ap suc e)), extensional m o p a.1 b.1 (λ xs e. h (true ∷ xs) (ap suc e)))

bits_equal : (a b : Bool) → beq a b ≡ true → a ≡ b
bits_equal false false e = refl
bits_equal false true e = e
bits_equal true false e = sym e
bits_equal true true e = refl

bit_self : (a : Bool) → beq a a ≡ true
bit_self false = refl
bit_self true = refl

pub same-sound : (f g : Fn) → same_fn f g ≡ true → f ≡ g
same-sound (bit a) (bit b) e = ap bit (bits_equal a b e)
same-sound (bit a) (fork y p) e = absurd (false≢true e)
same-sound (fork z o) (bit b) e = absurd (false≢true e)
same-sound (fork z o) (fork y p) e = let h = and_parts (same_fn z y) (same_fn o p) e in rw (same-sound z y h.0, same-sound o p h.1)

pub same_self : (f : Fn) → same_fn f f ≡ true
same_self (bit a) = bit_self a
same_self (fork z o) = rw (same_self z, same_self o)

pub decides_same_fn : (f g : Fn) → Decides (same_fn f g) (f ≡ g)
decides_same_fn f g = (same-sound f g, λ e. rw e (same_self g))

pub value_exchanged : (p : ℕ) (f : Fn) (xs : List Bool) → p + 1 < length xs → value (exchanged p f) xs ≡ value f (swapped p xs)
value_exchanged zero f [] h = absurd (omega arith)
value_exchanged zero f (x ∷ []) h = absurd (omega arith)
value_exchanged zero f (false ∷ false ∷ xs) h = sym (value_under f (false ∷ false ∷ []) xs)
value_exchanged zero f (false ∷ true ∷ xs) h = sym (value_under f (true ∷ false ∷ []) xs)
value_exchanged zero f (true ∷ false ∷ xs) h = sym (value_under f (false ∷ true ∷ []) xs)
value_exchanged zero f (true ∷ true ∷ xs) h = sym (value_under f (true ∷ true ∷ []) xs)
value_exchanged (suc p) f [] h = absurd (omega arith)
value_exchanged (suc p) (bit b) (x ∷ xs) h = refl
value_exchanged (suc p) (fork z o) (false ∷ xs) h = value_exchanged p z xs (omega arith)
value_exchanged (suc p) (fork z o) (true ∷ xs) h = value_exchanged p o xs (omega arith)

pub arity_exchanged : (p m : ℕ) (f : Fn) → p + 1 < m → Arity m f → Arity m (exchanged p f)
arity_exchanged p zero f h a = absurd (omega arith)
arity_exchanged zero (suc zero) f h a = absurd (omega arith)
arity_exchanged zero (suc (suc m)) f h a =
    let e : suc (suc m) - 2 ≡ m = omega arith in
    let left : (x y : Bool) → Arity m (under f (x ∷ y ∷ [])) = λ x y. rw e at (arity_under (suc (suc m)) f (x ∷ y ∷ []) a (omega arith)) in
    ((left false false, left true false), (left false true, left true true))
arity_exchanged (suc p) (suc m) (bit b) h a = a
arity_exchanged (suc p) (suc m) (fork z o) h a = (arity_exchanged p m z (omega arith) a.0, arity_exchanged p m o (omega arith) a.1)

-- the value of a function whose column at all arguments is a bit
pub value_bit : (f : Fn) (xs : List Bool) (b : Bool) → under f xs ≡ bit b → value f xs ≡ b
value_bit f xs b e = ap (value f) (sym (append-nil xs)) ∙ value_under f xs [] ∙ ap (λ g. value g []) e
