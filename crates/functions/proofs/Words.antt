-- Words of bits and their numbers, and the exchange of neighbours.
use Rattle.std.proofs.Common.{◌≡◌, ℕ, zero, suc, ◌+◌, ◌-◌, ◌*◌, ◌/◌, ◌%◌, ◌^◌, ◌<◌, Bool, true, false, eqb, List, [], ◌∷◌, map, length, get_or, sym, refl, ap, ◌∙◌, inl, inr, add-mul, mul-add, arith, pow_pos}
use native.Mathlib.Nat.{two-pow-succ, mul-add-div_right, div-eq_of_lt}
use Rattle.std.proofs.lemmas.Nat.{div-mul-add}
use Rattle.std.proofs.lemmas.Bool.{cases_lt}
use Rattle.functions.specs.Words.{number, bits, swapped}

pub length_bits : (k i : ℕ) → length (bits k i) ≡ k
length_bits zero i = refl
length_bits (suc k) i = ap suc (length_bits k i)

pub number_below : (xs : List Bool) → number xs < 2 ^ length xs
number_below [] = omega arith
number_below (false ∷ xs) = omega (arith, number_below xs, two-pow-succ (length xs))
number_below (true ∷ xs) = omega (arith, number_below xs, two-pow-succ (length xs))

-- the higher digits of a number do not matter
pub bits-past : (k q i : ℕ) → bits k (q * 2 ^ k + i) ≡ bits k i
bits-past zero q i = refl
bits-past (suc k) q i =
    let twice : q * 2 ^ suc k + i ≡ (q + q) * 2 ^ k + i = omega (arith, ap (λ n. q * n) (two-pow-succ k), mul-add q (2 ^ k) (2 ^ k), add-mul q q (2 ^ k)) in
    let first : (q + q + i / 2 ^ k) % 2 ≡ i / 2 ^ k % 2 = omega arith in
    rw (twice, mul-add-div_right (pow_pos k) (q + q) i, first, bits-past k (q + q) i)

-- a word whose first bit is 0, and one whose first bit is 1
pub bits-low : (k i : ℕ) → i < 2 ^ k → bits (suc k) i ≡ false ∷ bits k i
bits-low k i h = rw (div-eq_of_lt h)

pub bits-high : (k i : ℕ) → i < 2 ^ k → bits (suc k) (2 ^ k + i) ≡ true ∷ bits k i
bits-high k i h =
    let one : 2 ^ k + i ≡ 1 * 2 ^ k + i = omega arith in
    rw (one, div-mul-add 1 (2 ^ k) i h, bits-past k 1 i)

pub number_bits : (k i : ℕ) → i < 2 ^ k → number (bits k i) ≡ i
number_bits zero i h = omega arith
number_bits (suc k) i h = elim (cases_lt i (2 ^ k)) [
  | inl l ↦ rw (bits-low k i l) (number_bits k i l)
  | inr l ↦
      let low : i - 2 ^ k < 2 ^ k = omega (arith, two-pow-succ k) in
      let back : 2 ^ k + (i - 2 ^ k) ≡ i = omega arith in
      ap (λ n. number (bits (suc k) n)) (sym back) ∙ ap number (bits-high k (i - 2 ^ k) low) ∙ rw (length_bits k (i - 2 ^ k), number_bits k (i - 2 ^ k) low) back
]

pub bits_number : (xs : List Bool) → bits (length xs) (number xs) ≡ xs
bits_number [] = refl
bits_number (false ∷ xs) = bits-low (length xs) (number xs) (number_below xs) ∙ ap (λ ys. false ∷ ys) (bits_number xs)
bits_number (true ∷ xs) = bits-high (length xs) (number xs) (number_below xs) ∙ ap (λ ys. true ∷ ys) (bits_number xs)

-- words of one length with one number are the same
pub number_same : (xs ys : List Bool) → length xs ≡ length ys → number xs ≡ number ys → xs ≡ ys
number_same xs ys e h = sym (bits_number xs) ∙ rw (e, h) (bits_number ys)

pub get_or_bits : (k i t : ℕ) → t < k → get_or (bits k i) t false ≡ eqb (i / 2 ^ (k - 1 - t) % 2) 1
get_or_bits zero i t h = absurd (omega arith)
get_or_bits (suc k) i zero h = let e : suc k - 1 - 0 ≡ k = omega arith in rw e
get_or_bits (suc k) i (suc t) h = let e : suc k - 1 - suc t ≡ k - 1 - t = omega arith in rw e (get_or_bits k i t (omega arith))

pub length_swapped : {A : Type 0} (p : ℕ) (xs : List A) → length (swapped p xs) ≡ length xs
length_swapped zero [] = refl
length_swapped zero (x ∷ []) = refl
length_swapped zero (x ∷ y ∷ xs) = refl
length_swapped (suc p) [] = refl
length_swapped (suc p) (x ∷ xs) = ap suc (length_swapped p xs)

pub swapped_twice : {A : Type 0} (p : ℕ) (xs : List A) → swapped p (swapped p xs) ≡ xs
swapped_twice zero [] = refl
swapped_twice zero (x ∷ []) = refl
swapped_twice zero (x ∷ y ∷ xs) = refl
swapped_twice (suc p) [] = refl
swapped_twice (suc p) (x ∷ xs) = ap (λ ys. x ∷ ys) (swapped_twice p xs)

pub map_swapped : {A B : Type 0} (f : A → B) (p : ℕ) (xs : List A) → map f (swapped p xs) ≡ swapped p (map f xs)
map_swapped f zero [] = refl
map_swapped f zero (x ∷ []) = refl
map_swapped f zero (x ∷ y ∷ xs) = refl
map_swapped f (suc p) [] = refl
map_swapped f (suc p) (x ∷ xs) = ap (λ ys. f x ∷ ys) (map_swapped f p xs)
