-- New nodes over the leaves mean the function that chooses among them.
use Rattle.std.proofs.Common.{◌≡◌, ℕ, suc, ◌+◌, ◌-◌, ◌/◌, ◌^◌, ◌<◌, ◌≤◌, List, [], ◌∷◌, ◌++◌, length, get_or, take, drop, sym, refl, ap, ◌∙◌, subst, pow_pos, arith}
use Rattle.std.proofs.lemmas.List.{get_or-take, get_or-drop, length-drop, length-take-le}
use native.Mathlib.Nat.{two-pow-succ}
use Rattle.nodes.specs.declared.node.Node.{Node}
use Rattle.functions.specs.Functions.{fork}
use Rattle.functions.proofs.Rows.{rows_same}
use Rattle.nodes.specs.Diagrams.{at, mean, level, Ordered}
use Rattle.nodes.specs.Recodes.{chosen, Leaves, Topped}
use Rattle.nodes.proofs.Canonical.{level-node}
use Rattle.nodes.proofs.Indexes.{at_old, at_new}
use Rattle.nodes.proofs.Grown.{Agree, Above, mean-agree, level-agree, ordered_grown}
use Rattle.nodes.proofs.Making.{mean_stands}

-- half of the leaves
pub halved : (n v j : ℕ) → v < j → n ≡ 2 ^ (j - v) → (n / 2 ≡ 2 ^ (j - (v + 1))) × (n ≡ n / 2 + n / 2) × (0 < n / 2)
halved n v j less e =
    let k : ℕ = j - (v + 1) in
    let jk : j - v ≡ suc k = omega arith in
    let d : n ≡ 2 ^ k + 2 ^ k = e ∙ ap (λ (z : ℕ). 2 ^ z) jk ∙ two-pow-succ k in
    let p = pow_pos k in
    (omega arith, omega arith, omega arith)

-- no new node over a single leaf
pub top_leaf : (xs : List Node) (c m j : ℕ) (leaves : List ℕ) (v : ℕ) → Leaves xs c m j leaves → v ≡ j → 0 < length leaves → Topped xs c xs c m j leaves v (get_or leaves 0 0)
top_leaf xs c m j leaves v l e h =
    let P : ℕ → Type 0 = λ z. mean xs (m - z) z (get_or leaves 0 0) ≡ chosen xs m j leaves (j - z) in
    let w : j - j ≡ 0 = omega arith in
    let p : P j = sym (ap (λ (z : ℕ). chosen xs m j leaves z) w) in
    record {
      ordered = l.ordered;
      agree = λ n two less. refl;
      more = omega arith;
      few = omega arith;
      there_is = l.there_are 0 h;
      later = omega (arith, l.later 0 h);
      means = subst P (sym e) p;
    }

-- the leaves mean the same in a list with the same nodes
chosen-agree : (xs ys : List Node) (c m j : ℕ) (leaves : List ℕ) → Leaves xs c m j leaves → Agree xs ys c → (i : ℕ) → 2 ^ i ≤ length leaves → chosen ys m j leaves i ≡ chosen xs m j leaves i
chosen-agree xs ys c m j leaves l g i h =
    rows_same i (λ q. mean ys (m - j) j (get_or leaves q 0)) (λ q. mean xs (m - j) j (get_or leaves q 0))
    (λ q less. mean-agree m c xs ys l.ordered g (m - j) j (get_or leaves q 0) (l.there_are q (omega arith)))

-- the leaves in two halves
module _ (leaves : List ℕ) (half : ℕ) (lo hi : List ℕ) (loe : lo ≡ take half leaves) (hie : hi ≡ drop half leaves) where
  lo-at : (q : ℕ) → q < half → get_or lo q 0 ≡ get_or leaves q 0
  lo-at q less = ap (λ (z : List ℕ). get_or z q 0) loe ∙ get_or-take half leaves q 0 less

  hi-at : (q : ℕ) → get_or hi q 0 ≡ get_or leaves (half + q) 0
  hi-at q = ap (λ (z : List ℕ). get_or z q 0) hie ∙ get_or-drop half leaves q 0

  lo_length : half ≤ length leaves → length lo ≡ half
  lo_length h = ap (λ (z : List ℕ). length z) loe ∙ length-take-le half leaves h

  hi_length : length hi ≡ length leaves - half
  hi_length = ap (λ (z : List ℕ). length z) hie ∙ length-drop half leaves

  -- are leaves too, the second among the nodes after those over the first
  pub leaves_low : (xs : List Node) (c m j : ℕ) → half ≤ length leaves → Leaves xs c m j leaves → Leaves xs c m j lo
  leaves_low xs c m j h l =
      record {
        ordered = l.ordered;
        arity = l.arity;
        there_are = λ q less. let k : q < half = omega (arith, lo_length h) in omega (arith, lo-at q k, l.there_are q (omega arith));
        later = λ q less. let k : q < half = omega (arith, lo_length h) in let e = ap (λ (z : ℕ). level m xs z) (lo-at q k) in omega (arith, e, l.later q (omega arith));
      }

  pub leaves_high : (xs : List Node) (c : ℕ) (ys : List Node) (c' m j : ℕ) → half ≤ length leaves → Leaves xs c m j leaves → Ordered m ys c' → c ≤ c' → Agree xs ys c → Leaves ys c' m j hi
  leaves_high xs c ys c' m j h l o more g =
      record {
        ordered = o;
        arity = l.arity;
        there_are = λ q less. let k : half + q < length leaves = omega (arith, hi_length) in omega (arith, hi-at q, l.there_are (half + q) k);
        later = λ q less.
            let k : half + q < length leaves = omega (arith, hi_length) in
            let e = ap (λ (z : ℕ). level m ys z) (hi-at q) in
            omega (arith, e, l.later (half + q) k, level-agree xs ys c g m (get_or leaves (half + q) 0) (l.there_are (half + q) k));
      }

  -- the first of the variables chooses between the halves
  chosen_halves : (xs : List Node) (m j k : ℕ) → half ≡ 2 ^ k → chosen xs m j leaves (suc k) ≡ fork (chosen xs m j lo k) (chosen xs m j hi k)
  chosen_halves xs m j k hp =
      let a : chosen xs m j lo k ≡ chosen xs m j leaves k =
      rows_same k (λ q. mean xs (m - j) j (get_or lo q 0)) (λ q. mean xs (m - j) j (get_or leaves q 0)) (λ q less. ap (mean xs (m - j) j) (lo-at q (omega arith))) in
      let b =
      rows_same k (λ q. mean xs (m - j) j (get_or leaves (2 ^ k + q) 0)) (λ q. mean xs (m - j) j (get_or hi q 0))
      (λ q less. let e : 2 ^ k + q ≡ half + q = omega arith in ap (mean xs (m - j) j) (ap (λ (z : ℕ). get_or leaves z 0) e ∙ sym (hi-at q))) in
      ap (fork (chosen xs m j leaves k)) b ∙ ap (λ z. fork z (chosen xs m j hi k)) (sym a)

  -- one node over two halves
  pub top_join : (xs : List Node) (c : ℕ) (ys : List Node) (c1 : ℕ) (zs : List Node) (c2 m j v w r1 r2 : ℕ) → Leaves xs c m j leaves → w ≡ v + 1 → w ≤ j → half ≡ 2 ^ (j - w) → length leaves ≡ half + half → Topped xs c ys c1 m j lo w r1 → Topped ys c1 zs c2 m j hi w r2 → c2 ≡ length zs → (ws : List Node) (y : Node) → ws ≡ zs ++ (y ∷ []) → y ≡ record { var = v; low = r1; high = r2 } → (r : ℕ) → r ≡ c2 + 2 → Topped xs c ws (c2 + 1) m j leaves v r
  top_join xs c ys c1 zs c2 m j v w r1 r2 l vw wj hp long t1 t2 room ws y we ye r re =
      let yv : y.var ≡ v = ap (λ (z : Node). z.var) ye in
      let yl : y.low ≡ r1 = ap (λ (z : Node). z.low) ye in
      let yh : y.high ≡ r2 = ap (λ (z : Node). z.high) ye in
      let jm = l.arity in
      let g : Agree zs ws c2 = λ n two less. ap (λ (z : List Node). at z n) we ∙ at_old zs y n two (omega arith) in
      let new : at ws (c2 + 2) ≡ y = ap (λ (z : List Node). at z (c2 + 2)) we ∙ at_new zs y (c2 + 2) (omega arith) in
      let la = level-agree ys zs c1 t2.agree m r1 t1.there_is in
      let el = ap (λ (z : ℕ). level m zs z) yl in
      let eh = ap (λ (z : ℕ). level m zs z) yh in
      let above : Above m zs c2 y = record { within = omega arith; low-there = omega (arith, t1.there_is, t2.more); high-there = omega (arith, t2.there_is); low-later = omega (arith, t1.later, la, el); high-later = omega (arith, t2.later, eh) } in
      let o' = ordered_grown m c2 zs ws y t2.ordered g new above in
      let two : 2 ≤ r = omega arith in
      let is : at ws r ≡ record { var = v; low = r1; high = r2 } = ap (at ws) re ∙ new ∙ ye in
      let q : ℕ = m - w in
      let vk : suc v ≡ w = omega arith in
      let mq : m - v ≡ suc q = omega arith in
      let jk : j - v ≡ suc (j - w) = omega arith in
      let s0 : mean ws (m - v) v r ≡ mean ws (suc q) v r = ap (λ (z : ℕ). mean ws z v r) mq in
      let s1 : mean ws (suc q) v r ≡ fork (mean ws q (suc v) r1) (mean ws q (suc v) r2) = mean_stands ws q v r (record { var = v; low = r1; high = r2 }) two is refl in
      let s2 : mean ws q (suc v) r1 ≡ mean ws q w r1 = ap (λ (z : ℕ). mean ws q z r1) vk in
      let s3 : mean ws q (suc v) r2 ≡ mean ws q w r2 = ap (λ (z : ℕ). mean ws q z r2) vk in
      let r1c : r1 < c2 + 2 = omega (arith, t1.there_is, t2.more) in
      let s4 : mean ws q w r1 ≡ mean zs q w r1 = mean-agree m c2 zs ws t2.ordered g q w r1 r1c in
      let s5 : mean zs q w r1 ≡ mean ys q w r1 = mean-agree m c1 ys zs t1.ordered t2.agree q w r1 t1.there_is in
      let s6 : mean ws q w r2 ≡ mean zs q w r2 = mean-agree m c2 zs ws t2.ordered g q w r2 t2.there_is in
      let s7 : mean ys q w r1 ≡ chosen xs m j lo (j - w) = t1.means in
      let s8 : mean zs q w r2 ≡ chosen ys m j hi (j - w) = t2.means in
      let hs = leaves_high xs c xs c m j (omega arith) l l.ordered (omega arith) (λ n a b. refl) in
      let s9 : chosen ys m j hi (j - w) ≡ chosen xs m j hi (j - w) = chosen-agree xs ys c m j hi hs t1.agree (j - w) (omega (arith, hi_length)) in
      let s10 : chosen xs m j leaves (suc (j - w)) ≡ fork (chosen xs m j lo (j - w)) (chosen xs m j hi (j - w)) = chosen_halves xs m j (j - w) hp in
      let s11 : chosen xs m j leaves (j - v) ≡ chosen xs m j leaves (suc (j - w)) = ap (λ (z : ℕ). chosen xs m j leaves z) jk in
      record {
        ordered = o';
        agree = λ n a b. g n a (omega (arith, t1.more, t2.more)) ∙ (t2.agree n a (omega (arith, t1.more)) ∙ t1.agree n a b);
        more = omega (arith, t1.more, t2.more);
        few = omega (arith, t1.few, t2.few, lo_length (omega arith), hi_length);
        there_is = omega arith;
        later = omega (arith, level-node m ws r two, ap (λ (z : Node). z.var) is);
        means = cc (s0, s1, s2, s3, s4, s5, s6, s7, s8, s9, s10, s11);
      }
