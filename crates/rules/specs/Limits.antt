-- Codes that different classes do not share make a rule, once they are 0 for the classes that have none.
use Rattle.std.specs.Prelude.{◌≡◌, ℕ, ◌^◌, ◌<◌, ◌≤◌, nat_le, nat_lt}
use Rattle.std.proofs.Common.{sym, ◌∙◌, subst, arith, lit≤, pow_mono}
use Rattle.std.proofs.lemmas.Bool.{lt-ltb, le-ltb, leb-true, le-leb, lt-leb, cond-true, cond-false, cond_both}
use Rattle.rules.specs.Codes.{Laws, room, limited}

pub room_small : (j : ℕ) → j ≤ 4 → room j ≡ 2 ^ j
room_small j h = cond-true (nat_le j 4) (2 ^ j) 0 (le-leb j 4 h)

pub room_wide : (j : ℕ) → 4 < j → room j ≡ 0
room_wide j h = cond-false (nat_le j 4) (2 ^ j) 0 (lt-leb j 4 h)

pub room_few : (j : ℕ) → room j ≤ 16
room_few j = cond_both (nat_le j 4) (2 ^ j) 0 (λ n. n ≤ 16) (λ e. pow_mono (leb-true j 4 e)) (λ e. lit≤ tt)

-- a class that has a code
pub limited_in : (codes : ℕ → ℕ) (j c : ℕ) → j ≤ 4 → c < 2 ^ j → limited codes j c ≡ codes c
limited_in codes j c h l =
    cond-true (nat_lt c (room j)) (codes c) 0 (lt-ltb c (room j) (subst (λ (n : ℕ). c < n) (sym (room_small j h)) l))

-- and one that has none
pub limited_out : (codes : ℕ → ℕ) (j c : ℕ) → room j ≤ c → limited codes j c ≡ 0
limited_out codes j c h = cond-false (nat_lt c (room j)) (codes c) 0 (le-ltb c (room j) h)

pub limited_laws : {R : Type 0} (codes : ℕ → ℕ) → ((j c : ℕ) → j ≤ 4 → c < 2 ^ j → codes c < 2 ^ j) →
    ((j c d : ℕ) → j ≤ 4 → c < 2 ^ j → d < 2 ^ j → codes c ≡ codes d → c ≡ d) → Laws {R = R} (λ r. limited codes)
limited_laws codes below apart = record {
  below = λ r j c h l. subst (λ (n : ℕ). n < 2 ^ j) (sym (limited_in codes j c h l)) (below j c h l);
  apart = λ r j c d h l k e. apart j c d h l k (sym (limited_in codes j c h l) ∙ (e ∙ limited_in codes j d h k));
  wide = λ r j c h. limited_out codes j c (subst (λ (n : ℕ). n ≤ c) (sym (room_wide j h)) (omega arith));
  past = λ r j c h. limited_out codes j c (cond_both (nat_le j 4) (2 ^ j) 0 (λ n. n ≤ c) (λ e. h) (λ e. omega arith));
}
