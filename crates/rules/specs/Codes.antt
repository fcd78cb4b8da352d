-- Codes of classes, and the class of a code.
use Rattle.std.specs.Prelude.{◌≡◌, ℕ, zero, suc, ◌^◌, ◌<◌, ◌≤◌, min, cond, Option, MatchOption, ◌==◌, ◌≢◌, nat_le, nat_lt}

-- of rules R: the code that a rule gives to a class, by the number of bits j
pub record Laws {R : Type 0} (code : R → ℕ → ℕ → ℕ) : Type 0 where
  -- a code has j bits
  pub below : (r : R) (j c : ℕ) → j ≤ 4 → c < 2 ^ j → code r j c < 2 ^ j
  -- different classes have different codes
  pub apart : (r : R) (j c d : ℕ) → j ≤ 4 → c < 2 ^ j → d < 2 ^ j → code r j c ≡ code r j d → c ≡ d
  -- more than 4 bits give the code 0
  pub wide : (r : R) (j c : ℕ) → 4 < j → code r j c ≡ 0
  -- and so does a class too many
  pub past : (r : R) (j c : ℕ) → 2 ^ j ≤ c → code r j c ≡ 0

-- how many classes have codes of j bits: none for more than 4
abbrev pub room : ℕ → ℕ
room j = cond (nat_le j 4) (2 ^ j) 0

-- the codes of a sequence, and 0 for the classes that have none
abbrev pub limited : (ℕ → ℕ) → ℕ → ℕ → ℕ
limited codes j c = cond (nat_lt c (room j)) (codes c) 0

-- the class below k with the code q, or class 0 if there is none
abbrev pub holder : (ℕ → ℕ) → ℕ → ℕ → ℕ
holder code q zero = 0
holder code q (suc k) = cond (code k == q) k (holder code q k)

-- a class below k with the code q, if there is one
abbrev pub Has : (ℕ → ℕ) → ℕ → ℕ → Option ℕ → Type 0
Has code q k found = MatchOption found ((c : ℕ) → c < k → code c ≢ q) (λ c. (c < k) × (code c ≡ q))

-- among k classes that all have codes
pub record HolderLaws {R : Type 0} (code : R → ℕ → ℕ → ℕ) : Type 0 where
  -- a class is the holder of its code
  pub held : (r : R) (j k c : ℕ) → j ≤ 4 → k ≤ 2 ^ j → c < k → holder (code r j) (code r j c) k ≡ c
  -- a code that no class has is held by class 0
  pub none : (r : R) (j k q : ℕ) → ((c : ℕ) → c < k → code r j c ≢ q) → holder (code r j) q k ≡ 0
  -- there is room for all of them
  pub whole : (j k : ℕ) → j ≤ 4 → k ≤ 2 ^ j → min k (room j) ≡ k
