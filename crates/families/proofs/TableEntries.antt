-- Tables by their entries.
use Rattle.std.proofs.Common.{◌≡◌, ℕ, zero, suc, ◌+◌, ◌-◌, ◌*◌, ◌/◌, ◌%◌, ◌^◌, ◌<◌, ◌≤◌, min, Fits, w32, Bool, true, false, cond, eqb, sym, refl, ap, ◌∙◌, subst, ⊎_elim, lt_of_lt_of_le, le_of_suc-le-suc, not-suc-le-zero, eq-or-lt_of_le, add-one, arith, lit<, pow_mono}
use native.Mathlib.Nat.{div-eq_of_lt, min-eq_left, two-pow-succ}
use lib.Pow.{high, low}
use mir.Val.{bool_byte}
use Rattle.std.proofs.lemmas.Nat.{one_shl}
use Rattle.std.proofs.lemmas.Bool.Decides.{nat_tests}
use Rattle.families.specs.Tables.{Table, entry_of, tabled, Tabulated}
use Rattle.families.specs.Widening.{widened_table}
use Rattle.families.specs.Entries.{entry_low}

-- a word of k bits has no entry past them
pub entry_past : (t k e : ℕ) → t < 2 ^ k → k ≤ e → entry_of t e ≡ false
entry_past t k e h l = ap (λ n. eqb (n % 2) 1) (div-eq_of_lt (lt_of_lt_of_le h (pow_mono l)))

-- one entry more is a bit of the next weight
tabled-bit : (n t : ℕ) (b : Bool) → t + cond b (2 ^ n) 0 ≡ cond b 1 0 * 2 ^ n + t
tabled-bit n t b = grind (arith, nat_tests)

bit_below : (n t : ℕ) (b : Bool) → t < 2 ^ n → t + cond b (2 ^ n) 0 < 2 ^ suc n
bit_below n t b h = grind (arith, nat_tests, two-pow-succ n)

bit_tells : (b : Bool) → eqb (cond b 1 0 % 2) 1 ≡ b
bit_tells true = refl
bit_tells false = refl

pub tabled-below : (n : ℕ) (row : ℕ → Bool) → tabled n row < 2 ^ n
tabled-below zero row = lit< tt
tabled-below (suc n) row = bit_below n (tabled n row) (row n) (tabled-below n row)

-- the entries of up to 5 pins make a table
pub tabled-table : (k : ℕ) (row : ℕ → Bool) → k ≤ 5 → Table (tabled (2 ^ k) row)
tabled-table k row h = lt_of_lt_of_le (tabled-below (2 ^ k) row) (pow_mono (pow_mono h))

-- the entries of a table are those that it was made of
pub tabled_entry : (n : ℕ) (row : ℕ → Bool) (e : ℕ) → e < n → entry_of (tabled n row) e ≡ row e
tabled_entry zero row e h = absurd (not-suc-le-zero h)
tabled_entry (suc n) row e h =
    let t = tabled n row in
    let whole = tabled-bit n t (row n) in
    let rest : (t + cond (row n) (2 ^ n) 0) % 2 ^ n ≡ t = ap (λ w. w % 2 ^ n) whole ∙ low (cond (row n) 1 0) n (tabled-below n row) in
    let first : (t + cond (row n) (2 ^ n) 0) / 2 ^ n ≡ cond (row n) 1 0 = ap (λ w. w / 2 ^ n) whole ∙ high (cond (row n) 1 0) n (tabled-below n row) in
    let last : entry_of (t + cond (row n) (2 ^ n) 0) n ≡ row n = ap (λ w. eqb (w % 2) 1) first ∙ bit_tells (row n) in
    ⊎_elim (λ s. subst (λ (k : ℕ). entry_of (t + cond (row n) (2 ^ n) 0) k ≡ row k) (sym s) last)
    (λ l. sym (entry_low (t + cond (row n) (2 ^ n) 0) e n l) ∙ (ap (λ w. entry_of w e) rest ∙ tabled_entry n row e l))
    (eq-or-lt_of_le (le_of_suc-le-suc h))

-- a relation that gives the entries of a row gives its table
pub tabulated_row : {gives : ℕ → Bool → Type 0} {row : ℕ → Bool} (n t : ℕ) → Tabulated gives n t → ((e : ℕ) (b : Bool) → e < n → gives e b → b ≡ row e) → t ≡ tabled n row
tabulated_row zero t made same = made
tabulated_row {gives} {row} (suc n) t (s, b, before, here, e) same =
    let last : b ≡ row n = same n b (omega arith) here in
    let rest : s ≡ tabled n row = tabulated_row n s before (λ i c l. same i c (omega arith)) in
    cc

-- a bit shifted to its weight
weight : (n : ℕ) (b : Bool) → n < 32 → bool_byte b * 2 ^ n % 2 ^ 32 ≡ cond b (2 ^ n) 0
weight n b h = grind (arith, nat_tests, one_shl n 32 h)

-- the next entry keeps the table below the next power
pub next_below : (n t w : ℕ) (b : Bool) → t < 2 ^ n → w ≡ bool_byte b → n < 32 → t + w * 2 ^ n % 2 ^ 32 < 2 ^ (n + 1)
next_below n t w b h bit few = rw (bit, weight n b few, add-one) (bit_below n t b h)

pub next_fits : (n t w : ℕ) (b : Bool) → t < 2 ^ n → w ≡ bool_byte b → n < 32 → Fits w32 (t + w * 2 ^ n % 2 ^ 32)
next_fits n t w b h bit few =
    let last : n + 1 ≤ 32 = omega arith in
    let most : 2 ^ (n + 1) ≤ 2 ^ 32 = pow_mono last in
    omega (arith, next_below n t w b h bit few)

-- and makes the table of one entry more
pub tabulated_more : (gives : ℕ → Bool → Type 0) (n t w : ℕ) (b : Bool) → Tabulated gives n t → w ≡ bool_byte b → n < 32 → gives n b → Tabulated gives (n + 1) (t + w * 2 ^ n % 2 ^ 32)
tabulated_more gives n t w b before bit few here = rw (add-one, bit) (t, b, before, here, ap (λ v. t + v) (weight n b few))

-- the table of a widened row
pub widened_row : {gives : ℕ → Bool → Type 0} (k b t w n : ℕ) → Tabulated gives (min n 32) w → n ≡ 2 ^ min k 5 → ((e : ℕ) (v : Bool) → e < min n 32 → gives e v → v ≡ entry_of t (e / 2 ^ (min k 5 - b))) → w ≡ widened_table k b t
widened_row {gives} k b t w n made size same =
    let few : min k 5 ≤ 5 = omega arith in
    let most : 2 ^ min k 5 ≤ 32 = pow_mono few in
    let count : min n 32 ≡ 2 ^ min k 5 = ap (λ m. min m 32) size ∙ min-eq_left most in
    tabulated_row (min n 32) w made same ∙ ap (λ m. tabled m (λ e. entry_of t (e / 2 ^ (min k 5 - b)))) count
