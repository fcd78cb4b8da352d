-- What the laws of a chart give at every place and depth.
use Rattle.std.proofs.Common.{◌≡◌, ℕ, zero, suc, ◌+◌, ◌-◌, ◌/◌, ◌%◌, ◌^◌, ◌<◌, ◌≤◌, eqb, Bool, true, false, List, [], ◌∷◌, length, sym, refl, ap, ◌∙◌, subst, inl, inr, arith}
use Rattle.std.proofs.lemmas.Bool.{cases_lt}
use Rattle.functions.specs.Words.{bits}
use Rattle.functions.specs.Functions.{Fn, bit, fork, Arity, cofactor, under}
use Rattle.functions.proofs.Words.{length_bits}
use Rattle.charts.specs.Laws.{Laws}
use Rattle.charts.specs.Walks.{chart_function, led, reached}
use Rattle.charts.specs.declared.chart.Chart as chart

module _ {C P : Type 0} (arity : C → ℕ) (column : C → ℕ → P → Fn) (next : C → ℕ → P → Bool → P) (laws : Laws arity column next) where
  -- where no argument is left a column is a bit
  pub column_bit : (c : C) (d : ℕ) (p : P) → arity c ≤ d → (v : Bool) × (column c d p ≡ bit v)
  column_bit c d p h = let end = laws.ends c p in (end.0, laws.past c d p h ∙ end.1)

  -- a column is a function of the arguments that are left
  pub column_arity : (k : ℕ) (c : C) (d : ℕ) (p : P) → arity c - d ≡ k → Arity k (column c d p)
  column_arity zero c d p e = subst (Arity zero) (sym (column_bit c d p (omega arith)).1) tt
  column_arity (suc k) c d p e =
      let half : (v : Bool) → Arity k (column c (d + 1) (next c d p v)) = λ v. column_arity k c (d + 1) (next c d p v) (omega arith) in
      subst (Arity (suc k)) (sym (laws.forks c d p (omega arith))) (half false, half true)

  -- a step leads to the cofactor
  pub cofactor-next : (c : C) (d : ℕ) (p : P) (x : Bool) → cofactor x (column c d p) ≡ column c (d + 1) (next c d p x)
  cofactor-next c d p x = elim (cases_lt d (arity c)) [
    | inl h ↦
        let half : Bool → Fn = λ v. column c (d + 1) (next c d p v) in
        ap (cofactor x) (laws.forks c d p h) ∙ elim x as (λ v. cofactor v (fork (half false) (half true)) ≡ half v) [ true ↦ refl | false ↦ refl ]
    | inr h ↦
        let end = column_bit c d p h in
        ap (cofactor x) end.1 ∙ sym end.1 ∙ laws.past c d p h ∙ sym (laws.past c (d + 1) p (omega arith)) ∙ ap (column c (d + 1)) (sym (laws.stays c d p x h))
  ]

  -- a word leads to the column of the assignment that it is
  pub led-means : (c : C) (d : ℕ) (p : P) (xs : List Bool) → column c (d + length xs) (led (next c) d p xs) ≡ under (column c d p) xs
  led-means c d p [] = let none : d + 0 ≡ d = omega arith in rw none
  led-means c d p (x ∷ xs) =
      let on : d + suc (length xs) ≡ d + 1 + length xs = omega arith in
      rw (on, cofactor-next c d p x) (led-means c (d + 1) (next c d p x) xs)

  -- and a longer one than there are arguments to the place where these end
  pub led-stays : (c : C) (d : ℕ) (p : P) (xs : List Bool) → arity c ≤ d → led (next c) d p xs ≡ p
  led-stays c d p [] h = refl
  led-stays c d p (x ∷ xs) h = led-stays c (d + 1) (next c d p x) xs (omega arith) ∙ laws.stays c d p x h

-- a word of bits leads on by its first
pub led_more : {P : Type 0} (next : ℕ → P → Bool → P) (d : ℕ) (p : P) (b a : ℕ) → d < b → led next d p (bits (b - d) a) ≡ led next (d + 1) (next d p (eqb (a / 2 ^ (b - (d + 1)) % 2) 1)) (bits (b - (d + 1)) a)
led_more next d p b a h = let more : b - d ≡ suc (b - (d + 1)) = omega arith in rw more

pub reached-means : {C P : Type 0} (ch : chart.Ghosts C P) (c : C) (b a : ℕ) → ch.column c b (reached ch c b a) ≡ under (chart_function ch c) (bits b a)
reached-means ch c b a =
    let long : 0 + length (bits b a) ≡ b = omega (arith, length_bits b a) in
    rw long at (led-means ch.arity ch.column ch.next ch.laws c 0 (ch.root c) (bits b a))
