-- The class of a code.
use Rattle.std.proofs.Common.{◌≡◌, ℕ, zero, suc, ◌^◌, ◌<◌, ◌≤◌, eqb, Option, Some, None, unwrap_or, MatchOption, sym, refl, ap, ◌∙◌, subst, ⊎_elim, lt_of_lt_of_le, le_of_suc-le-suc, not-suc-le-zero, eq-or-lt_of_le, arith}
use native.Mathlib.Nat.{min-eq_left}
use Rattle.std.proofs.lemmas.Bool.{eq-eqb, ne_eqb, cases_eq, cases_lt, cond-true, cond-false}
use Rattle.rules.specs.Codes.{Laws, HolderLaws, Has, room, holder}
use Rattle.rules.specs.Limits.{room_small, room_wide}

pub holder-none : (code : ℕ → ℕ) (k q : ℕ) → ((d : ℕ) → d < k → code d ≡ q → ⊥) → holder code q k ≡ 0
holder-none code zero q no_one = refl
holder-none code (suc k) q no_one =
    cond-false (eqb (code k) q) k (holder code q k) (ne_eqb (code k) q (no_one k (omega arith)))
    ∙ holder-none code k q (λ d l. no_one d (omega arith))

pub holder-held : (code : ℕ → ℕ) (k c : ℕ) → ((d : ℕ) → d < k → code d ≡ code c → d ≡ c) → c < k → holder code (code c) k ≡ c
holder-held code zero c only l = absurd (not-suc-le-zero l)
holder-held code (suc k) c only l =
    let before : (code k ≡ code c → ⊥) → c < k = λ n. ⊎_elim (λ e. absurd (n (ap code (sym e)))) (λ m. omega arith) (eq-or-lt_of_le (le_of_suc-le-suc l)) in
    ⊎_elim
    (λ e. cond-true (eqb (code k) (code c)) k (holder code (code c) k) (eq-eqb (code k) (code c) e) ∙ only k (omega arith) e)
    (λ n. cond-false (eqb (code k) (code c)) k (holder code (code c) k) (ne_eqb (code k) (code c) n) ∙ holder-held code k c (λ d m. only d (omega arith)) (before n))
    (cases_eq (code k) (code c))

pub holder_laws : {R : Type 0} {code : R → ℕ → ℕ → ℕ} → Laws code → HolderLaws code
holder_laws {R} {code} laws = record {
  held = λ r j k c few fit l. holder-held (code r j) k c (λ d m. laws.apart r j d c few (lt_of_lt_of_le m fit) (lt_of_lt_of_le l fit)) l;
  none = λ r j. holder-none (code r j);
  whole = λ j k few fit. min-eq_left (subst (λ (n : ℕ). k ≤ n) (sym (room_small j few)) fit);
}

-- what a search that starts at class 0 finds
pub has_first : (code : ℕ → ℕ) (q n : ℕ) (found : Option ℕ) →
    MatchOption found ((c : ℕ) → 0 ≤ c → c < n → code c ≡ q → ⊥) (λ c. (0 ≤ c) × (c < n) × (code c ≡ q) × ((d : ℕ) → 0 ≤ d → d < c → code d ≡ q → ⊥)) → Has code q n found
has_first code q n None no_one = λ c l. no_one c (omega arith) l
has_first code q n (Some c) first = (first.1, first.2)

-- a class with a code has it alone
pub holder_found : {R : Type 0} {code : R → ℕ → ℕ → ℕ} → Laws code → (r : R) (j n q : ℕ) (found : Option ℕ) → n ≤ room j → Has (code r j) q n found → unwrap_or found 0 ≡ holder (code r j) q n
holder_found {R} {code} laws r j n q None fit no_one = sym (holder-none (code r j) n q no_one)
holder_found {R} {code} laws r j n q (Some i) fit has =
    let few : j ≤ 4 = ⊎_elim (λ l. omega arith) (λ w. let none : n ≤ 0 = subst (λ (m : ℕ). n ≤ m) (room_wide j w) fit in absurd (omega (arith, has.0))) (cases_lt j 5) in
    let within : n ≤ 2 ^ j = subst (λ (m : ℕ). n ≤ m) (room_small j few) fit in
    sym (ap (λ p. holder (code r j) p n) (sym has.1) ∙ (holder_laws laws).held r j n i few within has.0)
