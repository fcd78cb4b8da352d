-- The entries of words, of their halves and of their bytes.
use Rattle.std.specs.Prelude.{◌≡◌, ℕ, zero, suc, ◌+◌, ◌-◌, ◌*◌, ◌/◌, ◌%◌, ◌^◌, ◌<◌, List, ◌++◌, length, nat_eq, slice_index}
use Rattle.std.proofs.Common.{sym, ap, ◌∙◌, le_of_suc-le-suc, arith, shr-shr}
use Rattle.std.proofs.Math.Pow.{field, mod-mod-pow}
use Rattle.std.proofs.lemmas.Nat.{mod-pow-add}
use Rattle.families.specs.Tables.{entry_of}
use Rattle.families.specs.Words.{word_bytes}

-- the last k bits of a word are its first k entries
pub entry_low : (t e k : ℕ) → e < k → entry_of (t % 2 ^ k) e ≡ entry_of t e
entry_low t e k h =
    let split : k - e - 1 + 1 + e ≡ k = omega arith in
    ap (λ n. entry_of (t % 2 ^ n) e) (sym split)
    ∙ (ap (λ n. nat_eq (n % 2) 1) (field t (k - e - 1 + 1) e) ∙ ap (λ n. nat_eq n 1) (mod-mod-pow (t / 2 ^ e) (k - e - 1) 1))

-- the other bits are its other entries
pub entry_high : (t k e : ℕ) → entry_of (t / 2 ^ k) e ≡ entry_of t (k + e)
entry_high t k e = ap (λ n. nat_eq (n % 2) 1) (shr-shr t k e)

-- the two bytes of a word are its last 16 bits
pub word_back : (w : ℕ) → w / 256 % 256 * 256 + w % 256 ≡ w % 2 ^ 16
word_back w = sym (mod-pow-add w 8 8)

pub word_entry : (w e : ℕ) → e < 16 → entry_of (w / 256 % 256 * 256 + w % 256) e ≡ entry_of w e
word_entry w e h = ap (λ n. entry_of n e) (word_back w) ∙ entry_low w e 16 h

-- a word's bytes, and then others, are bytes
pub word_bytes_below : (w : ℕ) (bs : List ℕ) → ((i : ℕ) → i < length bs → slice_index bs i < 256) → (i : ℕ) → i < suc (suc (length bs)) → slice_index (word_bytes w ++ bs) i < 256
word_bytes_below w bs h zero l = omega arith
word_bytes_below w bs h (suc zero) l = omega arith
word_bytes_below w bs h (suc (suc i)) l = h i (le_of_suc-le-suc (le_of_suc-le-suc l))
