-- What the calls do that give a chart another function, and when they refuse.
use Rattle.std.specs.Prelude.{◌≡◌, ℕ, ◌+◌, ◌-◌, ◌^◌, ◌<◌, ◌≤◌, ◌⊎◌, ◌↔◌, List, map, length, Ok, Err, Result, slice_index}
use Rattle.functions.specs.Functions.{Fn, exchanged, recoded}
use Rattle.charts.specs.Refusals.{refusal_number}
use Rattle.charts.specs.declared.chart.Recoding.{Recoding}
use Rattle.charts.specs.declared.refusal.ChartRefusal.{ChartRefusal}

-- the function that a chart means: the column of its root
abbrev pub whole : {C P : Type 0} → (C → ℕ → P → Fn) → (C → P) → C → Fn
whole column root c = column c 0 (root c)

-- the chart took on f, a function of n arguments that fits, and what fits is as it was
pub record Became {C : Type 0} (arity : C → ℕ) (means : C → Fn) (fits : C → Fn → Type 0) (n : ℕ) (f : Fn) (before after : C) : Type 0 where
  pub fitted : fits before f
  pub meaning : means after ≡ f
  pub counted : arity after ≡ n
  pub fitting : (g : Fn) → fits before g ↔ fits after g

-- a refusal has the number 11 if the call is out of range, and else 20, if the new function does not fit
abbrev pub Refused : Type 0 → Type 0 → ℕ → Type 0
Refused InRange Fit n = ((n ≡ 11) × (InRange → ⊥)) ⊎ ((n ≡ 20) × InRange × (Fit → ⊥))

-- a call in range makes the chart mean f, a function of n arguments; a refused one leaves the chart as it was
abbrev pub Change : {C U : Type 0} → (C → ℕ) → (C → Fn) → (C → Fn → Type 0) → Type 0 → ℕ → Fn → C → C → Result U ChartRefusal → Type 0
Change arity means fits InRange n f before after (Ok u) = InRange × Became arity means fits n f before after
Change arity means fits InRange n f before after (Err e) = (after ≡ before) × Refused InRange (fits before f) (refusal_number e)

-- the exchange of the arguments p and p + 1
abbrev pub Swap : {C P U : Type 0} → (C → ℕ) → (C → ℕ → P → Fn) → (C → P) → (C → Fn → Type 0) → ℕ → C → C → Result U ChartRefusal → Type 0
Swap arity column root fits p before after r =
    Change arity (whole column root) fits (p + 1 < arity before) (arity before) (exchanged p (whole column root before)) before after r

-- the first b of m arguments can make room for j: each of the 2 ^ j codes has a class, and each class one of the places
pub record Recodable (m b j places : ℕ) (class_of : List ℕ) : Type 0 where
  pub bound : b ≤ m
  pub few : j ≤ 4
  pub small : m - b + j ≤ 16
  pub coded : 2 ^ j ≤ length class_of
  pub placed : (q : ℕ) → q < 2 ^ j → slice_index class_of q < places

-- a function of m arguments can be recoded so
abbrev pub IsInRange : {P : Type 0} → ℕ → Recoding P → Type 0
IsInRange m recoding = Recodable m recoding.bound recoding.codes (length recoding.places.now) recoding.class_of.now

-- the first b arguments replaced by j, whose code chooses the column of its class's place
abbrev pub Recode : {C P U : Type 0} → (C → ℕ) → (C → ℕ → P → Fn) → (C → P) → (C → Fn → Type 0) → ℕ → ℕ → List P → List ℕ → C → C → Result U ChartRefusal → Type 0
Recode arity column root fits b j places class_of before after r =
    Change arity (whole column root) fits (Recodable (arity before) b j (length places) class_of) (arity before - b + j)
    (recoded j (map (column before b) places) (λ q. slice_index class_of q)) before after r
