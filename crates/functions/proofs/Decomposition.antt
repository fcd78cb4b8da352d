-- The decomposition theorem: a function decomposes exactly when its classes have codes enough.
use Rattle.std.proofs.Common.{◌≡◌, ℕ, zero, suc, ◌-◌, ◌/◌, ◌%◌, ◌^◌, ◌<◌, ◌≤◌, Bool, false, cond, eqb, List, [], ◌∷◌, ◌++◌, map, length, get_or, sym, refl, ap, ◌∙◌, arith}
use Rattle.std.proofs.lemmas.List.{length-map}
use Rattle.std.proofs.ByRecursion.{All-get_or}
use Rattle.std.proofs.lemmas.Bool.Decides.{nat_tests}
use Rattle.functions.specs.Words.{number, bits}
use Rattle.functions.specs.Functions.{Fn, bit, Arity, value, recoded}
use Rattle.functions.specs.Classes.{columns, classes, first_of, class_of}
use Rattle.functions.specs.Decompositions.{Decomposes, DecompositionTheorem}
use Rattle.functions.proofs.Words.{length_bits, number_bits, number_below, number_same}
use Rattle.functions.proofs.Values.{value_under, extensional}
use Rattle.functions.proofs.Rows.{value_recoded}
use Rattle.functions.proofs.Classes.{classes_differ, class_below, get_or_class, under_first, arity_classes}

-- at most n numbers below n differ
pigeonhole : (n k : ℕ) (q : ℕ → ℕ) → ((c : ℕ) → c < k → q c < n) → ((c e : ℕ) → c < k → e < k → q c ≡ q e → c ≡ e) → k ≤ n
pigeonhole n zero q below apart = omega arith
pigeonhole zero (suc k) q below apart = absurd (omega (arith, below 0 (omega arith)))
pigeonhole (suc n) (suc k) q below apart =
    let last = below k (omega arith) in
    let other : (c : ℕ) → c < k → q c ≡ q k → ⊥ = λ c l e. omega (arith, apart c k (omega arith) (omega arith) e) in
    let moved : ℕ → ℕ = λ c. cond (eqb (q c) n) (q k) (q c) in
    let h = pigeonhole n k moved
    (λ c l. let o = other c l in let b = below c (omega arith) in grind (arith, nat_tests))
    (λ c e l m is. let o = other c l in let p = other e m in let a = apart c e (omega arith) (omega arith) in grind (arith, nat_tests)) in
    omega arith

-- ---- from the classes: the bits of the class number, and the function that chooses the class's column

-- the j bits of a number of the bound assignment, as functions of it
class_bits : ℕ → (List Bool → ℕ) → List (List Bool → Bool)
class_bits zero class = []
class_bits (suc j) class = (λ xs. eqb (class xs / 2 ^ j % 2) 1) ∷ class_bits j class

length_class_bits : (j : ℕ) (class : List Bool → ℕ) → length (class_bits j class) ≡ j
unfolding class_bits
length_class_bits zero class = refl
length_class_bits (suc j) class = ap suc (length_class_bits j class)

class_bits-at : (j : ℕ) (class : List Bool → ℕ) (xs : List Bool) → map (λ g. g xs) (class_bits j class) ≡ bits j (class xs)
unfolding class_bits
class_bits-at zero class xs = refl
class_bits-at (suc j) class xs = rw (class_bits-at j class xs)

from_classes : (m b j : ℕ) (f : Fn) → length (classes (columns b f)) ≤ 2 ^ j → Decomposes m b j f
from_classes m b j f few =
    let cs = classes (columns b f) in
    record {
      inner = class_bits j (class_of b f);
      many = length_class_bits j (class_of b f);
      outer = value (recoded j cs (λ c. c));
      composed = λ xs ys e _.
          let c = class_of b f xs in
          let below = class_below b f xs e in
          value_under f xs ys
          ∙ ap (λ g. value g ys) (sym (get_or_class b f xs (bit false) e) ∙ ap (λ i. get_or cs i (bit false)) (sym (number_bits j c (omega arith))))
          ∙ sym (value_recoded j cs (λ i. i) (bits j c) ys (length_bits j c))
          ∙ ap (λ w. value (recoded j cs (λ i. i)) (w ++ ys)) (sym (class_bits-at j (class_of b f) xs));
    }

-- ---- to the classes: the inner functions tell the first assignments of two classes apart

module _ (m b j : ℕ) (f : Fn) (arity : Arity m f) (within : b ≤ m) (d : Decomposes m b j f) where
  -- the values of the inner functions at the first assignment of the class c
  word : ℕ → List Bool
  word c = map (λ g. g (bits b (first_of b f c))) d.inner

  length-word : (c : ℕ) → length (word c) ≡ j
  unfolding word
  length-word c = length-map d.inner (λ (g : List Bool → Bool). g (bits b (first_of b f c))) ∙ d.many

  -- the value of a class at the free arguments
  class_value : (c : ℕ) (ys : List Bool) → c < length (classes (columns b f)) → length ys ≡ m - b → value (get_or (classes (columns b f)) c f) ys ≡ d.outer (word c ++ ys)
  unfolding word
  class_value c ys h e =
      let xs = bits b (first_of b f c) in
      ap (λ g. value g ys) (sym (under_first b f c f h)) ∙ sym (value_under f xs ys) ∙ d.composed xs ys (length_bits b (first_of b f c)) e

  word_tells : (c e : ℕ) → c < length (classes (columns b f)) → e < length (classes (columns b f)) → number (word c) ≡ number (word e) → c ≡ e
  word_tells c e h k is =
      let cs = classes (columns b f) in
      let same : word c ≡ word e = number_same (word c) (word e) (length-word c ∙ sym (length-word e)) is in
      let free : (i : ℕ) → i < length cs → Arity (m - b) (get_or cs i f) = λ i l. All-get_or (Arity (m - b)) cs i f l (arity_classes m b f arity within) in
      classes_differ (columns b f) c e f h k (extensional (m - b) (get_or cs c f) (get_or cs e f) (free c h) (free e k)
      (λ ys long. class_value c ys h long ∙ ap (λ w. d.outer (w ++ ys)) same ∙ sym (class_value e ys k long)))

  to-classes : length (classes (columns b f)) ≤ 2 ^ j
  to-classes = pigeonhole (2 ^ j) (length (classes (columns b f))) (λ c. number (word c)) (λ c h. rw (length-word c) at (number_below (word c))) word_tells

pub decomposition_theorem : DecompositionTheorem
decomposition_theorem m b j f arity within = (to-classes m b j f arity within, from_classes m b j f)
