-- A table that passes its test has a code for each class, and different ones for different classes.
use Rattle.std.specs.Prelude.{◌≡◌, ℕ, zero, suc, ◌^◌, ◌<◌, ◌≤◌, true, not, ◌&&◌, List, [], ◌∷◌, length, take, ◌==◌, ◌≢◌, nat_lt, slice_index, refl}
use Rattle.std.proofs.Common.{sym, ap, subst, ◌∙◌, ⊎_elim, le_of_suc-le-suc, not-suc-le-zero, eq-or-lt_of_le, le_trans, arith, pow_mono, get_or-take, length-take-le}
use Rattle.std.proofs.lemmas.Bool.{and_parts, not-true, eqb-false, ltb-true}
use Rattle.rules.specs.Tables.{lacking, distinct_below, coding}

-- what the test tells of each entry
lacking_at : (x : ℕ) (xs : List ℕ) → lacking x xs ≡ true → (i : ℕ) → i < length xs → x ≢ slice_index xs i
lacking_at x [] t i h e = not-suc-le-zero h
lacking_at x (y ∷ ys) t zero h e = eqb-false x y (not-true (x == y) (and_parts (not (x == y)) (lacking x ys) t).0) e
lacking_at x (y ∷ ys) t (suc i) h e = lacking_at x ys (and_parts (not (x == y)) (lacking x ys) t).1 i (le_of_suc-le-suc h) e

below_at : (n : ℕ) (xs : List ℕ) → distinct_below n xs ≡ true → (i : ℕ) → i < length xs → slice_index xs i < n
below_at n [] t i h = absurd (not-suc-le-zero h)
below_at n (x ∷ xs) t zero h = ltb-true x n (and_parts (nat_lt x n) (lacking x xs && distinct_below n xs) t).0
below_at n (x ∷ xs) t (suc i) h =
    let rest = (and_parts (nat_lt x n) (lacking x xs && distinct_below n xs) t).1 in
    below_at n xs (and_parts (lacking x xs) (distinct_below n xs) rest).1 i (le_of_suc-le-suc h)

apart_at : (n : ℕ) (xs : List ℕ) → distinct_below n xs ≡ true → (i k : ℕ) → i < length xs → k < length xs → slice_index xs i ≡ slice_index xs k → i ≡ k
apart_at n [] t i k h l e = absurd (not-suc-le-zero h)
apart_at n (x ∷ xs) t zero zero h l e = refl
apart_at n (x ∷ xs) t zero (suc k) h l e =
    let rest = and_parts (lacking x xs) (distinct_below n xs) (and_parts (nat_lt x n) (lacking x xs && distinct_below n xs) t).1 in
    absurd (lacking_at x xs rest.0 k (le_of_suc-le-suc l) e)
apart_at n (x ∷ xs) t (suc i) zero h l e =
    let rest = and_parts (lacking x xs) (distinct_below n xs) (and_parts (nat_lt x n) (lacking x xs && distinct_below n xs) t).1 in
    absurd (lacking_at x xs rest.0 i (le_of_suc-le-suc h) (sym e))
apart_at n (x ∷ xs) t (suc i) (suc k) h l e =
    let rest = and_parts (lacking x xs) (distinct_below n xs) (and_parts (nat_lt x n) (lacking x xs && distinct_below n xs) t).1 in
    ap suc (apart_at n xs rest.1 i k (le_of_suc-le-suc h) (le_of_suc-le-suc l) e)

-- the test at k holds the test at each j up to k
coding_at : (k : ℕ) (xs : List ℕ) → coding k xs ≡ true → (j : ℕ) → j ≤ k → distinct_below (2 ^ j) (take (2 ^ j) xs) ≡ true
coding_at zero xs t j h =
    let e : 0 ≡ j = omega arith in
    subst (λ (i : ℕ). distinct_below (2 ^ i) (take (2 ^ i) xs) ≡ true) e t
coding_at (suc k) xs t j h =
    let parts = and_parts (distinct_below (2 ^ suc k) (take (2 ^ suc k) xs)) (coding k xs) t in
    ⊎_elim (λ e. subst (λ (i : ℕ). distinct_below (2 ^ i) (take (2 ^ i) xs) ≡ true) (sym e) parts.0)
    (λ l. coding_at k xs parts.1 j (le_of_suc-le-suc l))
    (eq-or-lt_of_le h)

module _ (k : ℕ) (xs : List ℕ) (t : coding k xs ≡ true) (long : 2 ^ k ≤ length xs) where
  first_length : (j : ℕ) → j ≤ k → length (take (2 ^ j) xs) ≡ 2 ^ j
  first_length j h = length-take-le (2 ^ j) xs (le_trans (pow_mono h) long)

  first_under : (j c : ℕ) → j ≤ k → c < 2 ^ j → c < length (take (2 ^ j) xs)
  first_under j c h l = subst (λ (n : ℕ). c < n) (sym (first_length j h)) l

  pub coding_below : (j c : ℕ) → j ≤ k → c < 2 ^ j → slice_index xs c < 2 ^ j
  coding_below j c h l =
      subst (λ (n : ℕ). n < 2 ^ j) (get_or-take (2 ^ j) xs c 0 l)
      (below_at (2 ^ j) (take (2 ^ j) xs) (coding_at k xs t j h) c (first_under j c h l))

  pub coding_apart : (j c d : ℕ) → j ≤ k → c < 2 ^ j → d < 2 ^ j → slice_index xs c ≡ slice_index xs d → c ≡ d
  coding_apart j c d h l m e =
      apart_at (2 ^ j) (take (2 ^ j) xs) (coding_at k xs t j h) c d (first_under j c h l) (first_under j d h m)
      (get_or-take (2 ^ j) xs c 0 l ∙ (e ∙ sym (get_or-take (2 ^ j) xs d 0 m)))
