-- The family of two words that a byte joins keeps the laws of families.
use Rattle.std.specs.Prelude.{◌≡◌, ℕ, zero, suc, ◌+◌, ◌/◌, ◌%◌, ◌^◌, ◌<◌, ◌≤◌, Bool, true, false, [], ◌∷◌, ◌++◌, slice_index, refl}
use Rattle.std.proofs.Math.Path.{ap}
use Rattle.std.proofs.Common.{◌∙◌, ⊎_elim, lit<, lit≤}
use native.Mathlib.Omega.{arith}
use Rattle.std.proofs.lemmas.Bool.{cases_lt}
use Rattle.families.specs.Tables.{entry_of}
use Rattle.families.specs.Words.{word_bytes, word_at}
use Rattle.families.specs.Laws.{Laws}
use Rattle.families.specs.Entries.{word_entry, word_bytes_below, entry_high}
use Rattle.families.specs.Joined.{joint, joined_packed, joined_reads}

-- H takes f where h is 0, and g where it is 1
joint_low : (g f : Bool) → joint 0xCA 0 g f ≡ f
joint_low true true = refl
joint_low true false = refl
joint_low false true = refl
joint_low false false = refl

joint_high : (g f : Bool) → joint 0xCA 1 g f ≡ g
joint_high true true = refl
joint_high true false = refl
joint_high false true = refl
joint_high false false = refl

module _ (t e : ℕ) where
  lower : Bool
  lower = entry_of (word_at (joined_packed t) 0) (e % 16)

  upper : Bool
  upper = entry_of (word_at (joined_packed t) 2) (e % 16)

  yields_low : e < 16 → joined_reads (joined_packed t) e ≡ entry_of t e
  unfolding lower upper
  yields_low l =
      let half : e / 16 ≡ 0 = omega arith in
      let place : e % 16 ≡ e = omega arith in
      ap (λ h. joint 0xCA h upper lower) half ∙ (joint_low upper lower ∙ (word_entry t (e % 16) (omega arith) ∙ ap (entry_of t) place))

  yields_high : 16 ≤ e → e < 32 → joined_reads (joined_packed t) e ≡ entry_of t e
  unfolding lower upper
  yields_high m l =
      let half : e / 16 ≡ 1 = omega arith in
      let place : 16 + e % 16 ≡ e = omega arith in
      ap (λ h. joint 0xCA h upper lower) half
      ∙ (joint_high upper lower ∙ (word_entry (t / 2 ^ 16) (e % 16) (omega arith) ∙ (entry_high t 16 (e % 16) ∙ ap (entry_of t) place)))

last_below : (i : ℕ) → i < 1 → slice_index (0xCA ∷ []) i < 256
last_below zero l = lit< tt
last_below (suc i) l = omega arith

pub joined_laws : {F : Type 0} → Laws {F = F} (λ f. 5) (λ f. 5) (λ f. 5) (λ f. joined_packed) (λ f. joined_reads)
joined_laws = record {
  numbered = λ f. lit< tt;
  some_pins = λ f. lit≤ tt;
  few_pins = λ f. lit≤ tt;
  some_bytes = λ f. lit≤ tt;
  few_bytes = λ f. lit≤ tt;
  sized = λ f t h. refl;
  bytes = λ f t i h. word_bytes_below t (word_bytes (t / 2 ^ 16) ++ (0xCA ∷ [])) (word_bytes_below (t / 2 ^ 16) (0xCA ∷ []) last_below) i;
  yields = λ f t e h l. ⊎_elim (yields_low t e) (λ m. yields_high t e m l) (cases_lt e 16);
}
