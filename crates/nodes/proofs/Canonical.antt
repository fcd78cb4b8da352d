-- Numbers of a reduced ordered diagram that mean the same are equal.
use Rattle.std.proofs.Common.{◌≡◌, ℕ, zero, suc, ◌+◌, ◌<◌, ◌≤◌, Bool, true, false, eqb, ltb, List, sym, refl, ap, ◌∙◌, subst, ⊎_elim, arith}
use Rattle.std.proofs.lemmas.Bool.{ltb-true, ltb-false, eqb-true, eqb-false, and_parts, and_cases, cases_lt, lt-ltb, le-ltb, cases_Bool}
use Rattle.nodes.specs.declared.node.Node.{Node}
use Rattle.functions.specs.Functions.{bit}
use Rattle.nodes.specs.Diagrams.{at, tests, down, mean, level, Placed, Ordered, Reduced, node}

-- nodes with the same parts
pub same : (x y : Node) → x.var ≡ y.var → x.low ≡ y.low → x.high ≡ y.high → x ≡ y
same x y v l h =
    let e : node x.var x.low x.high ≡ node y.var y.low y.high = ap (λ (t : ℕ). node t x.low x.high) v ∙ (ap (λ (t : ℕ). node y.var t x.high) l ∙ ap (λ (t : ℕ). node y.var y.low t) h) in
    e

-- whether n has the variable d, and where the values of d lead from it
pub data Look (xs : List Node) (d n : ℕ) : Type 0 where
  stands : 2 ≤ n → (at xs n).var ≡ d → down false xs d n ≡ (at xs n).low → down true xs d n ≡ (at xs n).high → Look xs d n
  passes : (2 ≤ n → (at xs n).var ≡ d → ⊥) → down false xs d n ≡ n → down true xs d n ≡ n → Look xs d n

-- whether n has the variable d
pub look : (xs : List Node) (d n : ℕ) → Look xs d n
look xs d n = go (tests xs d n) refl
  where
    go : (t : Bool) → tests xs d n ≡ t → Look xs d n
    go true e =
        stands (omega (arith, ltb-true 1 n (and_parts _ _ e).0)) (eqb-true _ _ (and_parts _ _ e).1) (rw e) (rw e)
    go false e =
        passes
        (λ h v. ⊎_elim (λ (f : ltb 1 n ≡ false). omega (arith, ltb-false 1 n f)) (λ f. eqb-false _ _ f v) (and_cases _ _ e))
        (rw e)
        (rw e)

-- the variable of an end
pub level-end : (m : ℕ) (xs : List Node) (n : ℕ) → n < 2 → level m xs n ≡ m
level-end m xs n h = rw (lt-ltb n 2 h)

-- the variable of a node
pub level-node : (m : ℕ) (xs : List Node) (n : ℕ) → 2 ≤ n → level m xs n ≡ (at xs n).var
level-node m xs n h = rw (le-ltb n 2 h)

module _ (m c : ℕ) (xs : List Node) (o : Ordered m xs c) where
  -- a number one step down
  pub record Step (d n l : ℕ) : Type 0 where
    pub less : l ≤ n
    pub later : suc d ≤ level m xs l

  -- a step leads to a number that is not greater and has a later variable
  pub step : (v : Bool) (d n : ℕ) → d < m → n < c + 2 → d ≤ level m xs n → Step d n (down v xs d n)
  step v d n dm nc dl = go v (look xs d n)
    where
      to : (r l : ℕ) → r ≡ l → Step d n l → Step d n r
      to r l e s = subst (λ (z : ℕ). Step d n z) (sym e) s

      stay : (2 ≤ n → (at xs n).var ≡ d → ⊥) → Step d n n
      stay nay = record {
        less = omega arith;
        later = ⊎_elim (λ h. omega (arith, level-end m xs n h)) (λ h. omega (arith, level-node m xs n h, nay h)) (cases_lt n 2);
      }

      go : (v : Bool) → Look xs d n → Step d n (down v xs d n)
      go false (stands two e e0 e1) = let p : Placed m xs n = o n two nc in to _ (at xs n).low e0 (record { less = omega arith; later = omega arith })
      go true (stands two e e0 e1) = let p : Placed m xs n = o n two nc in to _ (at xs n).high e1 (record { less = omega arith; later = omega arith })
      go false (passes nay e0 e1) = to _ n e0 (stay nay)
      go true (passes nay e0 e1) = to _ n e1 (stay nay)

  -- past the last variable there are only ends
  pub last_end : (n : ℕ) → n < c + 2 → m ≤ level m xs n → n < 2
  last_end n nc ml =
      ⊎_elim (λ h. h) (λ h. let p : Placed m xs n = o n h nc in absurd (omega (arith, level-node m xs n h))) (cases_lt n 2)

-- ends that mean the same bit
pub end_same : (a b : ℕ) → a < 2 → b < 2 → bit (eqb a 1) ≡ bit (eqb b 1) → a ≡ b
end_same a b ha hb e =
    let q : eqb a 1 ≡ eqb b 1 = cc in
    ⊎_elim
    (λ (x : eqb a 1 ≡ true). let y : eqb b 1 ≡ true = sym q ∙ x in eqb-true a 1 x ∙ sym (eqb-true b 1 y))
    (λ (x : eqb a 1 ≡ false). let y : eqb b 1 ≡ false = sym q ∙ x in omega (arith, eqb-false a 1 x, eqb-false b 1 y))
    (cases_Bool (eqb a 1))

-- Two numbers of a reduced diagram that mean one function are one number.
pub canonical : (m c : ℕ) (xs : List Node) → Ordered m xs c → Reduced xs c → (k d : ℕ) → k + d ≡ m → (a b : ℕ) → a < c + 2 → b < c + 2 → d ≤ level m xs a → d ≤ level m xs b → mean xs k d a ≡ mean xs k d b → a ≡ b
unfolding mean
canonical m c xs o r zero d km a b ac bc da db e =
    end_same a b (last_end m c xs o a ac (omega arith)) (last_end m c xs o b bc (omega arith)) e
canonical m c xs o r (suc k) d km a b ac bc da db e =
    let dm : d < m = omega arith in
    let a0 = step m c xs o false d a dm ac da in
    let a1 = step m c xs o true d a dm ac da in
    let b0 = step m c xs o false d b dm bc db in
    let b1 = step m c xs o true d b dm bc db in
    let km' : k + suc d ≡ m = omega arith in
    let e0 : mean xs k (suc d) (down false xs d a) ≡ mean xs k (suc d) (down false xs d b) = cc in
    let e1 : mean xs k (suc d) (down true xs d a) ≡ mean xs k (suc d) (down true xs d b) = cc in
    join
    (canonical m c xs o r k (suc d) km' (down false xs d a) (down false xs d b) (omega (arith, a0.less)) (omega (arith, b0.less)) a0.later b0.later e0)
    (canonical m c xs o r k (suc d) km' (down true xs d a) (down true xs d b) (omega (arith, a1.less)) (omega (arith, b1.less)) a1.later b1.later e1)
    (look xs d a)
    (look xs d b)
  where
    join : down false xs d a ≡ down false xs d b → down true xs d a ≡ down true xs d b → Look xs d a → Look xs d b → a ≡ b
    join p q (stands two v x0 x1) (stands two' v' y0 y1) =
        let l : (at xs a).low ≡ (at xs b).low = cc in
        let h : (at xs a).high ≡ (at xs b).high = cc in
        let w : (at xs a).var ≡ (at xs b).var = cc in
        r.1 a b ((two, ac), (two', bc), same (at xs a) (at xs b) w l h)
    join p q (stands two v x0 x1) (passes nay y0 y1) = absurd (r.0 a two ac (cc))
    join p q (passes nay x0 x1) (stands two v y0 y1) = absurd (r.0 b two bc (cc))
    join p q (passes nay x0 x1) (passes nay' y0 y1) = cc
