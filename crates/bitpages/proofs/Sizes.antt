-- How many bytes and frames a table takes.
use Rattle.std.proofs.Common.{◌≡◌, ℕ, ◌+◌, ◌-◌, ◌*◌, ◌/◌, ◌^◌, ◌<◌, ◌≤◌, ap, ◌∙◌, inl, inr, one-mul, arith, pow_pos, pow_mono, pow-add}
use native.Mathlib.Nat.{div_self}
use Rattle.std.proofs.lemmas.Bool.{cases_lt}
use Rattle.bitpages.specs.Table.{size, share, count}

pub size_low : (n : ℕ) → 1 ≤ size n
size_low n = pow_pos (n - 3)

pub size-high : (n : ℕ) → n ≤ 12 → size n ≤ 512
size-high n h = let e : n - 3 ≤ 9 = omega arith in pow_mono e

pub share-low : (n : ℕ) → 1 ≤ share n
share-low n = omega (arith, size_low n)

-- a table of at most 7 arguments takes one frame
one_frame : (n : ℕ) → n ≤ 7 → (share n ≡ size n) × (count n ≡ 1)
one_frame n h =
    let k : n - 3 ≤ 4 = omega arith in
    let e : share n ≡ size n = omega (arith, pow_mono k) in
    (e, ap (λ (s : ℕ). size n / s) e ∙ div_self (size_low n))

-- one of more arguments takes full frames
full_frames : (n : ℕ) → 7 ≤ n → (share n ≡ 16) × (size n ≡ 16 * 2 ^ (n - 7)) × (count n ≡ 2 ^ (n - 7))
full_frames n h =
    let k : n - 3 ≡ 4 + (n - 7) = omega arith in
    let e : size n ≡ 16 * 2 ^ (n - 7) = ap (λ (k : ℕ). 2 ^ k) k ∙ pow-add 2 4 (n - 7) in
    let s : share n ≡ 16 = omega (arith, pow_pos (n - 7)) in
    (s, e, ap (λ (t : ℕ). size n / t) s ∙ omega arith)

-- the shares of a table are its bytes
pub whole : (n : ℕ) → count n * share n ≡ size n
whole n = elim (cases_lt n 7) [
  | inl small ↦ let h = one_frame n (omega arith) in ap (λ (k : ℕ). k * share n) h.1 ∙ one-mul (share n) ∙ h.0
  | inr large ↦ let h = full_frames n large in ap (λ (s : ℕ). count n * s) h.0 ∙ omega (arith, h.1, h.2)
]

-- there are 1 to 32 frames
pub count_low : (n : ℕ) → 1 ≤ count n
count_low n = elim (cases_lt n 7) [
  | inl small ↦ let e = one_frame n (omega arith) in omega arith
  | inr large ↦ let e = full_frames n large in omega (arith, pow_pos (n - 7))
]

pub count-high : (n : ℕ) → n ≤ 12 → count n ≤ 32
count-high n h = elim (cases_lt n 7) [
  | inl small ↦ let e = one_frame n (omega arith) in omega arith
  | inr large ↦ let e = full_frames n large in let k : n - 7 ≤ 5 = omega arith in omega (arith, pow_mono k)
]

-- eight entries a byte
pub size_room : (n : ℕ) → 2 ^ n ≤ 8 * size n
size_room n = let k : n ≤ 3 + (n - 3) = omega arith in omega (arith, pow_mono k, pow-add 2 3 (n - 3))

pub size_full : (n : ℕ) → 3 ≤ n → 2 ^ n ≡ 8 * size n
size_full n h = let k : n ≡ 3 + (n - 3) = omega arith in ap (λ (j : ℕ). 2 ^ j) k ∙ pow-add 2 3 (n - 3)

-- one byte holds fewer
pub size_small : (n : ℕ) → n < 3 → size n ≡ 1
size_small n h = let k : n - 3 ≡ 0 = omega arith in ap (λ (j : ℕ). 2 ^ j) k

-- and no byte is left without entries
pub size-tight : (n : ℕ) → 8 * size n ≤ 2 ^ n + 7
size-tight n = elim (cases_lt n 3) [
  | inl small ↦ omega (arith, size_small n small, pow_pos n)
  | inr large ↦ omega (arith, size_full n large)
]
