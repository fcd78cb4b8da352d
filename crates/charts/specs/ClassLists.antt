-- Lists with one place for each class, at the front of a strip.
use Rattle.std.specs.Prelude.{◌≡◌, ℕ, zero, suc, ◌+◌, ◌<◌, ◌≤◌, true, false, cond, ◌⊎◌, List, [], ◌∷◌, ◌++◌, map, length, take, drop, Some, None, Option, slice_set}
use Rattle.functions.specs.Functions.{Fn}
use Rattle.functions.specs.Classes.{among, place_of}

-- which of the places is the first that means the same as p, if one does
abbrev pub Found : {P : Type 0} → (P → Fn) → P → List P → Option ℕ → Type 0
Found mean p ps None = among (mean p) (map mean ps) ≡ false
Found mean p ps (Some i) = (among (mean p) (map mean ps) ≡ true) × (i ≡ place_of (mean p) (map mean ps))

-- p's class has the number i in the list of the first n entries of the strip, and all stays as it was
pub record Old {P : Type 0} (mean : P → Fn) (p : P) (n : ℕ) (before : List P) (m : ℕ) (after : List P) (i : ℕ) : Type 0 where
  pub seen : Found mean p (take n before) (Option.Some i)
  pub count : m ≡ n
  pub strip : after ≡ before

-- p's class is new, so that p takes the next entry and its class the next number
pub record New {P : Type 0} (mean : P → Fn) (p : P) (n : ℕ) (before : List P) (m : ℕ) (after : List P) (i : ℕ) : Type 0 where
  pub unseen : Found mean p (take n before) Option.None
  pub room : n < length before
  pub number : i ≡ n
  pub count : m ≡ n + 1
  pub strip : after ≡ slice_set before n p

-- p's class is new and the strip is full, and all stays as it was
pub record Full {P : Type 0} (mean : P → Fn) (p : P) (n : ℕ) (before : List P) (m : ℕ) (after : List P) : Type 0 where
  pub unseen : Found mean p (take n before) Option.None
  pub room : length before ≤ n
  pub count : m ≡ n
  pub strip : after ≡ before

-- a list of n places becomes one of m that has p's class, and answers the number of that class
abbrev pub Noted : {P : Type 0} → (P → Fn) → P → ℕ → List P → ℕ → List P → Option ℕ → Type 0
Noted mean p n before m after None = Full mean p n before m after
Noted mean p n before m after (Some i) = Old mean p n before m after i ⊎ New mean p n before m after i

-- the places with p at their end, unless one of them means the same
abbrev pub joined_by : {P : Type 0} → (P → Fn) → List P → P → List P
joined_by mean ps p = cond (among (mean p) (map mean ps)) ps (ps ++ (p ∷ []))

-- the first place of each class among at 0, .., at (n - 1), by first appearance
abbrev pub first_places : {P : Type 0} → (P → Fn) → (ℕ → P) → ℕ → List P
first_places mean at zero = []
first_places mean at (suc n) = joined_by mean (first_places mean at n) (at n)

-- the strip with the places at its front, and its other entries as they were
abbrev pub laid : {P : Type 0} → List P → List P → List P
laid places strip = places ++ drop (length places) strip
