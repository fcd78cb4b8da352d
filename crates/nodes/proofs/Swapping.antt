-- Three nodes for each node mean the function with two variables exchanged.
use Rattle.std.proofs.Common.{◌≡◌, ℕ, zero, suc, ◌+◌, ◌-◌, ◌*◌, ◌/◌, ◌<◌, ◌≤◌, Bool, true, false, eqb, ◌⊎◌, List, [], ◌∷◌, ◌++◌, length, sym, refl, ap, ◌∙◌, subst, inl, inr, ⊎_elim, arith}
use Rattle.std.proofs.lemmas.Bool.{cases_lt, cases_eq, eq-eqb, ne_eqb}
use Rattle.std.proofs.lemmas.List.{length_push}
use Rattle.nodes.specs.declared.node.Node.{Node}
use Rattle.functions.specs.Functions.{Fn, bit, exchanged}
use Rattle.nodes.specs.Diagrams.{at, down, mean, level, Placed, Ordered, node}
use Rattle.nodes.specs.Exchanges.{num, Trio, split, lift, plain, Trios}
use Rattle.nodes.proofs.Canonical.{Look, stands, passes, look, level-end, level-node, step}
use Rattle.nodes.proofs.Indexes.{at_old, at_new}
use Rattle.nodes.proofs.Grown.{down_less, placed}

module _ (ys : List Node) (a b c : Node) (ys' : List Node) (e : ys' ≡ ((ys ++ (a ∷ [])) ++ (b ∷ [])) ++ (c ∷ [])) where
  -- the nodes after three put behind them
  three-at : (n : ℕ) → at ys' n ≡ at (((ys ++ (a ∷ [])) ++ (b ∷ [])) ++ (c ∷ [])) n
  three-at n = ap (λ (z : List Node). at z n) e

  three-long : (length (ys ++ (a ∷ [])) ≡ length ys + 1) × (length ((ys ++ (a ∷ [])) ++ (b ∷ [])) ≡ length ys + 2)
  three-long = (length_push ys a, omega (arith, length_push ys a, length_push (ys ++ (a ∷ [])) b))

  three_below : (n : ℕ) → 2 ≤ n → n < length ys + 2 → at ys' n ≡ at ys n
  three_below n two h = let l = three-long in three-at n ∙ at_old _ c n two (omega (arith, l.1)) ∙ at_old _ b n two (omega (arith, l.0)) ∙ at_old ys a n two h

  three_a : (n : ℕ) → n ≡ length ys + 2 → at ys' n ≡ a
  three_a n h = let l = three-long in three-at n ∙ at_old _ c n (omega arith) (omega (arith, l.1)) ∙ at_old _ b n (omega arith) (omega (arith, l.0)) ∙ at_new ys a n h

  three_b : (n : ℕ) → n ≡ length ys + 3 → at ys' n ≡ b
  three_b n h = let l = three-long in three-at n ∙ at_old _ c n (omega arith) (omega (arith, l.1)) ∙ at_new _ b n (omega (arith, l.0))

  three_c : (n : ℕ) → n ≡ length ys + 4 → at ys' n ≡ c
  three_c n h = let l = three-long in three-at n ∙ at_new _ c n (omega (arith, l.1))

trio_is : {xs : List Node} {p n : ℕ} {a b c a' b' c' : Node} → a' ≡ a → b' ≡ b → c' ≡ c → Trio xs p n a b c → Trio xs p n a' b' c'
trio_is {xs} {p} {n} {a} {b} {c} {a'} {b'} {c'} ea eb ec (split v x y z) = split v (ea ∙ x) (eb ∙ y) (ec ∙ z)
trio_is {xs} {p} {n} {a} {b} {c} {a'} {b'} {c'} ea eb ec (lift v x y z) = lift v (ea ∙ x) (eb ∙ y) (ec ∙ z)
trio_is {xs} {p} {n} {a} {b} {c} {a'} {b'} {c'} ea eb ec (plain v w x y z) = plain v w (ea ∙ x) (eb ∙ y) (ec ∙ z)

-- the nodes of one node more
pub trios_more : (xs : List Node) (p i : ℕ) (ys ys1 ys2 ys3 : List Node) (a b c : Node) → length ys ≡ 3 * i → ys1 ≡ ys ++ (a ∷ []) → ys2 ≡ ys1 ++ (b ∷ []) → ys3 ≡ ys2 ++ (c ∷ []) → Trios xs p (i + 2) ys → Trio xs p (i + 2) a b c → Trios xs p (i + 1 + 2) ys3
trios_more xs p i ys ys1 ys2 ys3 a b c len e1 e2 e3 t new =
    let e : ys3 ≡ ((ys ++ (a ∷ [])) ++ (b ∷ [])) ++ (c ∷ []) = e3 ∙ ap (λ (z : List Node). z ++ (c ∷ [])) (e2 ∙ ap (λ (z : List Node). z ++ (b ∷ [])) e1) in
    λ n two less.
    ⊎_elim
    (λ (q : n ≡ i + 2).
    let P : ℕ → Type 0 = λ z. Trio xs p z a b c in
    trio_is (three_a ys a b c ys3 e (num n - 2) (omega arith)) (three_b ys a b c ys3 e (num n - 1) (omega arith)) (three_c ys a b c ys3 e (num n) (omega arith)) (subst P (sym q) new))
    (λ (q : n ≡ i + 2 → ⊥).
    trio_is (three_below ys a b c ys3 e (num n - 2) (omega arith) (omega arith)) (three_below ys a b c ys3 e (num n - 1) (omega arith) (omega arith)) (three_below ys a b c ys3 e (num n) (omega arith) (omega arith)) (t n two (omega arith)))
    (cases_eq n (i + 2))

-- where the two values lead
pub record Downs (xs : List Node) (d n l h : ℕ) : Type 0 where
  pub d0 : down false xs d n ≡ l
  pub d1 : down true xs d n ≡ h

pub down_stands : (xs : List Node) (d n : ℕ) (y : Node) → 2 ≤ n → at xs n ≡ y → y.var ≡ d → Downs xs d n y.low y.high
down_stands xs d n y two e v = go (look xs d n)
  where
    go : Look xs d n → Downs xs d n y.low y.high
    go (stands two' v' e0 e1) = record { d0 = e0 ∙ ap (λ (z : Node). z.low) e; d1 = e1 ∙ ap (λ (z : Node). z.high) e }
    go (passes nay e0 e1) = absurd (nay two (ap (λ (z : Node). z.var) e ∙ v))

pub down_passes : (xs : List Node) (d n : ℕ) → (2 ≤ n → (at xs n).var ≡ d → ⊥) → Downs xs d n n n
down_passes xs d n no-stand = go (look xs d n)
  where
    go : Look xs d n → Downs xs d n n n
    go (stands two v e0 e1) = absurd (no-stand two v)
    go (passes nay e0 e1) = record { d0 = e0; d1 = e1 }

eqb_num : (n : ℕ) → eqb (num n) 1 ≡ eqb n 1
eqb_num n =
    ⊎_elim
    (λ (e : n ≡ 1). eq-eqb (num n) 1 (omega arith) ∙ sym (eq-eqb n 1 e))
    (λ (e : n ≡ 1 → ⊥). ne_eqb (num n) 1 (λ q. omega arith) ∙ sym (ne_eqb n 1 e))
    (cases_eq n 1)

module _ (m c : ℕ) (xs : List Node) (o : Ordered m xs c) (p : ℕ) (pm : p + 1 < m) (raw : List Node) (t : Trios xs p (c + 2) raw) where
  -- the number of n, past a variable that is not exchanged
  num-down : (d n : ℕ) → (d ≡ p → ⊥) → (d ≡ p + 1 → ⊥) → n < c + 2 → Downs raw d (num n) (num (down false xs d n)) (num (down true xs d n))
  num-down d n dp dq nc = ⊎_elim small large (cases_lt n 2)
    where
      both : Downs xs d n n n → Downs raw d (num n) (num n) (num n) → Downs raw d (num n) (num (down false xs d n)) (num (down true xs d n))
      both x y = record { d0 = y.d0 ∙ ap (λ (z : ℕ). num z) (sym x.d0); d1 = y.d1 ∙ ap (λ (z : ℕ). num z) (sym x.d1) }

      small : n < 2 → Downs raw d (num n) (num (down false xs d n)) (num (down true xs d n))
      small h = both (down_passes xs d n (λ a b. omega arith)) (down_passes raw d (num n) (λ a b. omega arith))

      go : 2 ≤ n → Trio xs p n (at raw (num n - 2)) (at raw (num n - 1)) (at raw (num n)) → Downs raw d (num n) (num (down false xs d n)) (num (down true xs d n))
      go two (split v x y z) = both (down_passes xs d n (λ a b. omega arith)) (down_passes raw d (num n) (λ a b. let w : (at raw (num n)).var ≡ p = ap (λ (q : Node). q.var) z in omega arith))
      go two (lift v x y z) = both (down_passes xs d n (λ a b. omega arith)) (down_passes raw d (num n) (λ a b. let w : (at raw (num n)).var ≡ p = ap (λ (q : Node). q.var) z in omega arith))
      go two (plain v w x y z) =
          ⊎_elim
          (λ (e : (at xs n).var ≡ d).
          let a = down_stands xs d n (at xs n) two refl e in
          let b = down_stands raw d (num n) (node (at xs n).var (num (at xs n).low) (num (at xs n).high)) (omega arith) z e in
          record { d0 = b.d0 ∙ ap (λ (q : ℕ). num q) (sym a.d0); d1 = b.d1 ∙ ap (λ (q : ℕ). num q) (sym a.d1) })
          (λ (e : (at xs n).var ≡ d → ⊥).
          both (down_passes xs d n (λ a b. e b)) (down_passes raw d (num n) (λ a b. let u : (at raw (num n)).var ≡ (at xs n).var = ap (λ (q : Node). q.var) z in e (sym u ∙ b))))
          (cases_eq (at xs n).var d)

      large : 2 ≤ n → Downs raw d (num n) (num (down false xs d n)) (num (down true xs d n))
      large h = go h (t n h nc)

  -- a number that depends on neither is passed by
  num_passes : (d l : ℕ) → (d ≡ p) ⊎ (d ≡ p + 1) → l < c + 2 → p + 2 ≤ level m xs l → Downs raw d (num l) (num l) (num l)
  num_passes d l w lc later = down_passes raw d (num l) (λ a b. go (omega arith) b (t l (omega arith) lc))
    where
      go : 2 ≤ l → (at raw (num l)).var ≡ d → Trio xs p l (at raw (num l - 2)) (at raw (num l - 1)) (at raw (num l)) → ⊥
      go two e (split v x y z) = omega (arith, level-node m xs l two)
      go two e (lift v x y z) = omega (arith, level-node m xs l two)
      go two e (plain v v' x y z) =
          let u : (at raw (num l)).var ≡ (at xs l).var = ap (λ (q : Node). q.var) z in
          ⊎_elim (λ q. omega (arith, level-node m xs l two, q)) (λ q. omega (arith, level-node m xs l two, q)) w

  -- both variables at once
  pub record Four (d d' n : ℕ) : Type 0 where
    pub f00 : down false raw d' (down false raw d (num n)) ≡ num (down false xs d' (down false xs d n))
    pub f01 : down true raw d' (down false raw d (num n)) ≡ num (down false xs d' (down true xs d n))
    pub f10 : down false raw d' (down true raw d (num n)) ≡ num (down true xs d' (down false xs d n))
    pub f11 : down true raw d' (down true raw d (num n)) ≡ num (down true xs d' (down true xs d n))

  four_from : (d d' n : ℕ) (r0 r1 x0 x1 a00 a01 a10 a11 : ℕ) → Downs raw d (num n) r0 r1 → Downs xs d n x0 x1 → Downs raw d' r0 a00 a01 → Downs raw d' r1 a10 a11 → a00 ≡ num (down false xs d' x0) → a01 ≡ num (down false xs d' x1) → a10 ≡ num (down true xs d' x0) → a11 ≡ num (down true xs d' x1) → Four d d' n
  four_from d d' n r0 r1 x0 x1 a00 a01 a10 a11 r x q0 q1 e00 e01 e10 e11 =
      record {
        f00 = ap (down false raw d') r.d0 ∙ (q0.d0 ∙ (e00 ∙ ap (λ (z : ℕ). num (down false xs d' z)) (sym x.d0)));
        f01 = ap (down true raw d') r.d0 ∙ (q0.d1 ∙ (e01 ∙ ap (λ (z : ℕ). num (down false xs d' z)) (sym x.d1)));
        f10 = ap (down false raw d') r.d1 ∙ (q1.d0 ∙ (e10 ∙ ap (λ (z : ℕ). num (down true xs d' z)) (sym x.d0)));
        f11 = ap (down true raw d') r.d1 ∙ (q1.d1 ∙ (e11 ∙ ap (λ (z : ℕ). num (down true xs d' z)) (sym x.d1)));
      }

  num_eq : (a b : ℕ) → b ≡ a → num a ≡ num b
  num_eq a b e = ap (λ (z : ℕ). num z) (sym e)

  -- from n over two variables, in either order
  four : (d d' n : ℕ) → d ≡ p → d' ≡ p + 1 → n < c + 2 → p ≤ level m xs n → Four d d' n
  four d d' n dp dq nc later = ⊎_elim small large (cases_lt n 2)
    where
      -- n depends on neither
      free : p + 2 ≤ level m xs n → Four d d' n
      free h =
          let r = num_passes d n (inl dp) nc h in
          let r' = num_passes d' n (inr dq) nc h in
          let x = down_passes xs d n (λ a b. omega (arith, level-node m xs n a)) in
          let x' = down_passes xs d' n (λ a b. omega (arith, level-node m xs n a)) in
          four_from d d' n (num n) (num n) n n (num n) (num n) (num n) (num n) r x r' r' (num_eq n _ x'.d0) (num_eq n _ x'.d0) (num_eq n _ x'.d1) (num_eq n _ x'.d1)

      small : n < 2 → Four d d' n
      small h = free (omega (arith, level-end m xs n h))

      go : 2 ≤ n → Trio xs p n (at raw (num n - 2)) (at raw (num n - 1)) (at raw (num n)) → Four d d' n
      go two (split v x y z) =
          let r = down_stands raw d (num n) (node p (num n - 2) (num n - 1)) (omega arith) z (sym dp) in
          let u = down_stands xs d n (at xs n) two refl (v ∙ sym dp) in
          let q0 = down_stands raw d' (num n - 2) (node (p + 1) (num (down false xs (p + 1) (at xs n).low)) (num (down false xs (p + 1) (at xs n).high))) (omega arith) x (sym dq) in
          let q1 = down_stands raw d' (num n - 1) (node (p + 1) (num (down true xs (p + 1) (at xs n).low)) (num (down true xs (p + 1) (at xs n).high))) (omega arith) y (sym dq) in
          four_from d d' n (num n - 2) (num n - 1) (at xs n).low (at xs n).high _ _ _ _ r u q0 q1
          (ap (λ (e : ℕ). num (down false xs e (at xs n).low)) (sym dq))
          (ap (λ (e : ℕ). num (down false xs e (at xs n).high)) (sym dq))
          (ap (λ (e : ℕ). num (down true xs e (at xs n).low)) (sym dq))
          (ap (λ (e : ℕ). num (down true xs e (at xs n).high)) (sym dq))
      go two (lift v x y z) =
          let pl : Placed m xs n = o n two nc in
          let l = (at xs n).low in
          let h = (at xs n).high in
          let r = down_stands raw d (num n) (node p (num l) (num h)) (omega arith) z (sym dp) in
          let u = down_passes xs d n (λ a b. omega arith) in
          let u' = down_stands xs d' n (at xs n) two refl (v ∙ sym dq) in
          let q0 = num_passes d' l (inr dq) (omega arith) (omega (arith, pl.3)) in
          let q1 = num_passes d' h (inr dq) (omega arith) (omega (arith, pl.4)) in
          four_from d d' n (num l) (num h) n n (num l) (num l) (num h) (num h) r u q0 q1 (num_eq l _ u'.d0) (num_eq l _ u'.d0) (num_eq h _ u'.d1) (num_eq h _ u'.d1)
      go two (plain v w x y z) = free (omega (arith, level-node m xs n two))

      large : 2 ≤ n → Four d d' n
      large h = go h (t n h nc)

  -- past both variables nothing changes
  mean-later : (k d n : ℕ) → p + 2 ≤ d → n < c + 2 → mean raw k d (num n) ≡ mean xs k d n
  unfolding mean
  mean-later zero d n pd nc = ap (λ (b : Bool). bit b) (eqb_num n)
  mean-later (suc k) d n pd nc =
      let w = num-down d n (λ e. omega arith) (λ e. omega arith) nc in
      let l0 = down_less m c xs o false d n nc in
      let l1 = down_less m c xs o true d n nc in
      let h0 : mean raw k (suc d) (num (down false xs d n)) ≡ mean xs k (suc d) (down false xs d n) = mean-later k (suc d) (down false xs d n) (omega arith) (omega arith) in
      let h1 : mean raw k (suc d) (num (down true xs d n)) ≡ mean xs k (suc d) (down true xs d n) = mean-later k (suc d) (down true xs d n) (omega arith) (omega arith) in
      let e0 = w.d0 in
      let e1 = w.d1 in
      cc (e0, e1, h0, h1)

  -- what n means with two variables exchanged
  swap_mean : (j k d n : ℕ) → j + d ≡ p → k + d ≡ m → n < c + 2 → d ≤ level m xs n → mean raw k d (num n) ≡ exchanged j (mean xs k d n)
  unfolding mean
  swap_mean zero zero d n jd km nc dl = absurd (omega arith)
  swap_mean zero (suc zero) d n jd km nc dl = absurd (omega arith)
  swap_mean zero (suc (suc k)) d n jd km nc dl =
      let f = four d (suc d) n (omega arith) (omega arith) nc (omega arith) in
      let a0 = down_less m c xs o false d n nc in
      let a1 = down_less m c xs o true d n nc in
      let b00 = down_less m c xs o false (suc d) (down false xs d n) (omega arith) in
      let b01 = down_less m c xs o false (suc d) (down true xs d n) (omega arith) in
      let b10 = down_less m c xs o true (suc d) (down false xs d n) (omega arith) in
      let b11 = down_less m c xs o true (suc d) (down true xs d n) (omega arith) in
      let g : ℕ → Fn = λ z. mean raw k (suc (suc d)) z in
      let h00 : mean raw k (suc (suc d)) (down false raw (suc d) (down false raw d (num n))) ≡ mean xs k (suc (suc d)) (down false xs (suc d) (down false xs d n)) = ap g f.f00 ∙ mean-later k (suc (suc d)) (down false xs (suc d) (down false xs d n)) (omega arith) (omega arith) in
      let h01 : mean raw k (suc (suc d)) (down true raw (suc d) (down false raw d (num n))) ≡ mean xs k (suc (suc d)) (down false xs (suc d) (down true xs d n)) = ap g f.f01 ∙ mean-later k (suc (suc d)) (down false xs (suc d) (down true xs d n)) (omega arith) (omega arith) in
      let h10 : mean raw k (suc (suc d)) (down false raw (suc d) (down true raw d (num n))) ≡ mean xs k (suc (suc d)) (down true xs (suc d) (down false xs d n)) = ap g f.f10 ∙ mean-later k (suc (suc d)) (down true xs (suc d) (down false xs d n)) (omega arith) (omega arith) in
      let h11 : mean raw k (suc (suc d)) (down true raw (suc d) (down true raw d (num n))) ≡ mean xs k (suc (suc d)) (down true xs (suc d) (down true xs d n)) = ap g f.f11 ∙ mean-later k (suc (suc d)) (down true xs (suc d) (down true xs d n)) (omega arith) (omega arith) in
      cc (h00, h01, h10, h11)
  swap_mean (suc j) zero d n jd km nc dl = absurd (omega arith)
  swap_mean (suc j) (suc k) d n jd km nc dl =
      let w = num-down d n (λ e. omega arith) (λ e. omega arith) nc in
      let s0 = step m c xs o false d n (omega arith) nc dl in
      let s1 = step m c xs o true d n (omega arith) nc dl in
      let g : ℕ → Fn = λ z. mean raw k (suc d) z in
      let h0 : mean raw k (suc d) (down false raw d (num n)) ≡ exchanged j (mean xs k (suc d) (down false xs d n)) = ap g w.d0 ∙ swap_mean j k (suc d) (down false xs d n) (omega arith) (omega arith) (omega (arith, s0.less)) s0.later in
      let h1 : mean raw k (suc d) (down true raw d (num n)) ≡ exchanged j (mean xs k (suc d) (down true xs d n)) = ap g w.d1 ∙ swap_mean j k (suc d) (down true xs d n) (omega arith) (omega arith) (omega (arith, s1.less)) s1.later in
      cc (h0, h1)

  -- the level of a number once it is moved
  level-num : (l : ℕ) → l < c + 2 → (level m raw (num l) ≡ level m xs l) ⊎ ((level m xs l ≡ p + 1) × (level m raw (num l) ≡ p))
  level-num l lc = ⊎_elim small large (cases_lt l 2)
    where
      small : l < 2 → (level m raw (num l) ≡ level m xs l) ⊎ ((level m xs l ≡ p + 1) × (level m raw (num l) ≡ p))
      small h = inl (level-end m raw (num l) (omega arith) ∙ sym (level-end m xs l h))

      go : 2 ≤ l → Trio xs p l (at raw (num l - 2)) (at raw (num l - 1)) (at raw (num l)) → (level m raw (num l) ≡ level m xs l) ⊎ ((level m xs l ≡ p + 1) × (level m raw (num l) ≡ p))
      go two (split v x y z) =
          let u : (at raw (num l)).var ≡ p = ap (λ (q : Node). q.var) z in
          inl (level-node m raw (num l) (omega arith) ∙ (u ∙ (sym v ∙ sym (level-node m xs l two))))
      go two (lift v x y z) =
          let u : (at raw (num l)).var ≡ p = ap (λ (q : Node). q.var) z in
          inr (level-node m xs l two ∙ v, level-node m raw (num l) (omega arith) ∙ u)
      go two (plain v w x y z) =
          let u : (at raw (num l)).var ≡ (at xs l).var = ap (λ (q : Node). q.var) z in
          inl (level-node m raw (num l) (omega arith) ∙ (u ∙ sym (level-node m xs l two)))

      large : 2 ≤ l → (level m raw (num l) ≡ level m xs l) ⊎ ((level m xs l ≡ p + 1) × (level m raw (num l) ≡ p))
      large h = go h (t l h lc)

  -- the three places of a node
  pub record ThreePlaced (n : ℕ) : Type 0 where
    pub first : Placed m raw (num n - 2)
    pub second : Placed m raw (num n - 1)
    pub third : Placed m raw (num n)

  later-num : (v l : ℕ) → l < c + 2 → v < level m xs l → (v < p) ⊎ (p + 1 < level m xs l) → v < level m raw (num l)
  later-num v l lc h w = ⊎_elim (λ e. omega (arith, e)) (λ e. ⊎_elim (λ a. omega (arith, e.1, a)) (λ a. omega (arith, e.0, a)) w) (level-num l lc)

  -- the three nodes are in order
  three_placed : (n : ℕ) → 2 ≤ n → n < c + 2 → ThreePlaced n
  three_placed n two nc = go (t n two nc)
    where
      pl : Placed m xs n
      pl = o n two nc

      filler : (q : ℕ) → 2 ≤ q → at raw q ≡ node p 0 0 → Placed m raw q
      filler q h e =
          let l = level-end m raw 0 (omega arith) in
          placed m raw q (node p 0 0) e (omega arith) (omega arith) (omega arith) (omega arith) (omega arith)

      go : Trio xs p n (at raw (num n - 2)) (at raw (num n - 1)) (at raw (num n)) → ThreePlaced n
      go (split v x y z) =
          let w = pl in
          let l = (at xs n).low in
          let h = (at xs n).high in
          let lc : l < c + 2 = omega (arith, w.1) in
          let hc : h < c + 2 = omega (arith, w.2) in
          let ll : p + 1 ≤ level m xs l = omega (arith, w.3) in
          let hl : p + 1 ≤ level m xs h = omega (arith, w.4) in
          let s00 = step m c xs o false (p + 1) l (omega arith) lc ll in
          let s01 = step m c xs o true (p + 1) l (omega arith) lc ll in
          let s10 = step m c xs o false (p + 1) h (omega arith) hc hl in
          let s11 = step m c xs o true (p + 1) h (omega arith) hc hl in
          let va : (at raw (num n - 2)).var ≡ p + 1 = ap (λ (q : Node). q.var) x in
          let vb : (at raw (num n - 1)).var ≡ p + 1 = ap (λ (q : Node). q.var) y in
          record {
            first = placed m raw (num n - 2) _ x (omega arith) (omega (arith, s00.less, w.1)) (omega (arith, s10.less, w.2)) (later-num (p + 1) _ (omega (arith, s00.less)) (omega (arith, s00.later)) (inr (omega (arith, s00.later)))) (later-num (p + 1) _ (omega (arith, s10.less)) (omega (arith, s10.later)) (inr (omega (arith, s10.later))));
            second = placed m raw (num n - 1) _ y (omega arith) (omega (arith, s01.less, w.1)) (omega (arith, s11.less, w.2)) (later-num (p + 1) _ (omega (arith, s01.less)) (omega (arith, s01.later)) (inr (omega (arith, s01.later)))) (later-num (p + 1) _ (omega (arith, s11.less)) (omega (arith, s11.later)) (inr (omega (arith, s11.later))));
            third = placed m raw (num n) _ z (omega arith) (omega arith) (omega arith) (omega (arith, level-node m raw (num n - 2) (omega arith), va)) (omega (arith, level-node m raw (num n - 1) (omega arith), vb));
          }
      go (lift v x y z) =
          let w = pl in
          record {
            first = filler (num n - 2) (omega arith) x;
            second = filler (num n - 1) (omega arith) y;
            third = placed m raw (num n) _ z (omega arith) (omega (arith, w.1)) (omega (arith, w.2)) (later-num p (at xs n).low (omega (arith, w.1)) (omega (arith, w.3)) (inr (omega (arith, w.3)))) (later-num p (at xs n).high (omega (arith, w.2)) (omega (arith, w.4)) (inr (omega (arith, w.4))));
          }
      go (plain v v' x y z) =
          let w = pl in
          let u : (l : ℕ) → (at xs n).var < level m xs l → ((at xs n).var < p) ⊎ (p + 1 < level m xs l) = λ l g. ⊎_elim (λ (a : (at xs n).var < p). inl a) (λ (a : p ≤ (at xs n).var). inr (omega arith)) (cases_lt (at xs n).var p) in
          record {
            first = filler (num n - 2) (omega arith) x;
            second = filler (num n - 1) (omega arith) y;
            third = placed m raw (num n) _ z w.0 (omega (arith, w.1)) (omega (arith, w.2)) (later-num (at xs n).var (at xs n).low (omega (arith, w.1)) w.3 (u (at xs n).low w.3)) (later-num (at xs n).var (at xs n).high (omega (arith, w.2)) w.4 (u (at xs n).high w.4));
          }

  -- all nodes are
  ordered_raw : Ordered m raw (3 * c)
  ordered_raw q q2 qc =
      let n : ℕ = (q - 2) / 3 + 2 in
      let s = three_placed n (omega arith) (omega arith) in
      let P : ℕ → Type 0 = λ z. Placed m raw z in
      ⊎_elim
      (λ (e : q ≡ num n - 2). subst P (sym e) s.first)
      (λ (e : q ≡ num n - 2 → ⊥).
      ⊎_elim
      (λ (f : q ≡ num n - 1). subst P (sym f) s.second)
      (λ (f : q ≡ num n - 1 → ⊥). let g : q ≡ num n = omega arith in subst P (sym g) s.third)
      (cases_eq q (num n - 1)))
      (cases_eq q (num n - 2))

-- the unreduced diagram of the exchange
pub record Swapped (m p : ℕ) (xs : List Node) (c root : ℕ) (ys : List Node) : Type 0 where
  pub ordered : Ordered m ys (3 * c)
  pub means : mean ys m 0 (num root) ≡ exchanged p (mean xs m 0 root)

pub swapped : (m c : ℕ) (xs : List Node) → Ordered m xs c → (p : ℕ) → p + 1 < m → (raw : List Node) → Trios xs p (c + 2) raw → (root : ℕ) → root < c + 2 → Swapped m p xs c root raw
swapped m c xs o p pm raw t root rc = record { ordered = ordered_raw m c xs o p pm raw t; means = swap_mean m c xs o p pm raw t p m 0 root (omega arith) (omega arith) rc (omega arith) }
