-- A table whose entries come from where an exchange has them means the exchanged function.
use Rattle.std.proofs.Common.{◌≡◌, ℕ, zero, suc, ◌+◌, ◌-◌, ◌*◌, ◌/◌, ◌%◌, ◌^◌, ◌<◌, ◌≤◌, Bool, false, eqb, List, get_or, sym, refl, ap, ◌∙◌, subst, inl, inr, mul_comm, add-mul, mul-add, arith, pow_pos}
use native.Mathlib.Nat.{two-pow-succ, mul-add-div_right, mul-add-mod_self_left, mul-add-mod_self_right}
use Rattle.std.proofs.lemmas.Nat.{div-mul-add, mod-mul-add, mul-add-lt, div_below, mod_below}
use Rattle.std.proofs.lemmas.Bool.{eqb-true, cases_Bool}
use Rattle.functions.specs.Functions.{Fn, bit, fork, Arity, rows, tree, exchanged}
use Rattle.functions.proofs.Rows.{rows_same, arity_tree}
use Rattle.charts.specs.Stretches.{stretch_column, all_of}
use Rattle.charts.specs.Tables.{Filled, crossed, source_of, exchanged_entry}
use Rattle.charts.specs.BitCharts.{AtMost}
use Rattle.charts.proofs.Stretches.{whole_is}

-- ---- where an entry comes from

crossed_far : (c x : ℕ) → crossed (4 * c + x) ≡ 4 * c + crossed x
crossed_far c x =
    let same : (4 * c + x) % 4 ≡ x % 4 = mul-add-mod_self_left 4 c x in
    rw same (elim (cases_Bool (eqb (x % 4) 1)) [
      | inl e ↦ rw e (omega arith)
      | inr e ↦ elim (cases_Bool (eqb (x % 4) 2)) [
        | inl f ↦ let two = eqb-true (x % 4) 2 f in rw (e, f) (omega arith)
        | inr f ↦ rw (e, f)
      ]
    ])

crossed-below : (x c : ℕ) → x < 4 * c → crossed x < 4 * c
crossed-below x c h = elim (cases_Bool (eqb (x % 4) 1)) [
  | inl e ↦ let one = eqb-true (x % 4) 1 e in rw e (omega arith)
  | inr e ↦ elim (cases_Bool (eqb (x % 4) 2)) [
    | inl f ↦ rw (e, f) (omega arith)
    | inr f ↦ rw (e, f) h
  ]
]

source_at : (h q i : ℕ) → i < h → source_of h (q * h + i) ≡ crossed q * h + i
source_at h q i l = rw (div-mul-add q h i l, mod-mul-add q h i l)

source_far : (h c i : ℕ) → 0 < h → source_of h (4 * c * h + i) ≡ 4 * c * h + source_of h i
source_far h c i pos =
    let by : (4 * c * h + i) / h ≡ 4 * c + i / h = mul-add-div_right pos (4 * c) i in
    let rest : (4 * c * h + i) % h ≡ i % h = mul-add-mod_self_right (4 * c) h i in
    rw (by, rest, crossed_far c (i / h)) (omega (arith, add-mul (4 * c) (crossed (i / h)) h))

-- ---- the exchange of rows

forked : {z o y p : Fn} → z ≡ y → o ≡ p → fork z o ≡ fork y p
forked e f = rw (e, f)

-- p arguments, then the two that are exchanged, then k
over : ℕ → ℕ → ℕ
over zero k = suc (suc k)
over (suc p) k = suc (over p k)

over_is : (p k : ℕ) → over p k ≡ p + (k + 2)
unfolding over
over_is zero k = omega arith
over_is (suc p) k = let e = over_is p k in omega arith

over-pow : (p k : ℕ) → 2 ^ over p k ≡ 4 * 2 ^ p * 2 ^ k
unfolding over
over-pow zero k = omega (arith, two-pow-succ k, two-pow-succ (suc k))
over-pow (suc p) k =
    let e = over-pow p k in
    omega (arith, two-pow-succ (over p k), two-pow-succ p, add-mul (4 * 2 ^ p) (4 * 2 ^ p) (2 ^ k), ap (λ n. n * 2 ^ k) (mul-add 4 (2 ^ p) (2 ^ p)), ap (λ n. 4 * n * 2 ^ k) (two-pow-succ p))

exchanged-rows : (p k : ℕ) (r : ℕ → Fn) → exchanged p (rows (over p k) r) ≡ rows (over p k) (λ i. r (source_of (2 ^ k) i))
unfolding over
exchanged-rows zero k r =
    let twice = two-pow-succ k in
    let row : (q n : ℕ → ℕ) → ((i : ℕ) → i < 2 ^ k → q i ≡ source_of (2 ^ k) (n i)) → rows k (λ i. r (q i)) ≡ rows k (λ i. r (source_of (2 ^ k) (n i))) =
    λ q n e. rows_same k (λ i. r (q i)) (λ i. r (source_of (2 ^ k) (n i))) (λ i l. ap r (e i l)) in
    let from : (q i n : ℕ) → i < 2 ^ k → n ≡ q * 2 ^ k + i → source_of (2 ^ k) n ≡ crossed q * 2 ^ k + i = λ q i n l e. rw e (source_at (2 ^ k) q i l) in
    forked
    (forked
    (row (λ i. i) (λ i. i) (λ i l. omega (arith, from 0 i i l (omega arith))))
    (row (λ i. 2 ^ suc k + i) (λ i. 2 ^ k + i) (λ i l. omega (arith, twice, from 1 i (2 ^ k + i) l (omega arith)))))
    (forked
    (row (λ i. 2 ^ k + i) (λ i. 2 ^ suc k + i) (λ i l. omega (arith, from 2 i (2 ^ suc k + i) l (omega arith))))
    (row (λ i. 2 ^ suc k + (2 ^ k + i)) (λ i. 2 ^ suc k + (2 ^ k + i)) (λ i l. omega (arith, twice, from 3 i (2 ^ suc k + (2 ^ k + i)) l (omega arith)))))
exchanged-rows (suc p) k r =
    let far : (i : ℕ) → 2 ^ over p k + source_of (2 ^ k) i ≡ source_of (2 ^ k) (2 ^ over p k + i) = λ i. rw (over-pow p k) (sym (source_far (2 ^ k) (2 ^ p) i (pow_pos k))) in
    forked (exchanged-rows p k r)
    (exchanged-rows p k (λ i. r (2 ^ over p k + i))
    ∙ rows_same (over p k) (λ i. r (2 ^ over p k + source_of (2 ^ k) i)) (λ i. r (source_of (2 ^ k) (2 ^ over p k + i))) (λ i l. ap r (far i)))

pub source_below : (m k i : ℕ) → k + 2 ≤ m → i < 2 ^ m → source_of (2 ^ k) i < 2 ^ m
source_below m k i h l =
    let is : over (m - (k + 2)) k ≡ m = over_is (m - (k + 2)) k ∙ omega arith in
    let size : 2 ^ m ≡ 4 * 2 ^ (m - (k + 2)) * 2 ^ k = ap (λ n. 2 ^ n) (sym is) ∙ over-pow (m - (k + 2)) k in
    let pos = pow_pos k in
    let q = div_below i (2 ^ k) (4 * 2 ^ (m - (k + 2))) pos (omega arith) in
    let r = mod_below i (2 ^ k) pos in
    omega (arith, mul-add-lt (crossed (i / 2 ^ k)) (2 ^ k) (i % 2 ^ k) (4 * 2 ^ (m - (k + 2))) (crossed-below (i / 2 ^ k) (2 ^ (m - (k + 2))) q) r, mul_comm (2 ^ k) (4 * 2 ^ (m - (k + 2))))

-- ---- the exchange of a table: ys has the entries of xs

module _ (m p : ℕ) (xs ys : List Bool) (h : p + 1 < m) (done : Filled (2 ^ m) (exchanged_entry xs (m - 2 - p)) ys) where
  exchanged_is : exchanged p (stretch_column m xs 0 (all_of m)) ≡ tree m (exchanged_entry xs (m - 2 - p))
  exchanged_is =
      let is : m ≡ over p (m - 2 - p) = omega (arith, over_is p (m - 2 - p)) in
      let P : ℕ → Type 0 = λ n. exchanged p (tree n (λ i. get_or xs i false)) ≡ tree n (exchanged_entry xs (m - 2 - p)) in
      ap (exchanged p) (whole_is m xs (λ i. get_or xs i false) (λ i l. refl))
      ∙ subst P (sym is) (exchanged-rows p (m - 2 - p) (λ i. bit (get_or xs i false)))

  pub exchanged-means : stretch_column m ys 0 (all_of m) ≡ exchanged p (stretch_column m xs 0 (all_of m))
  exchanged-means = whole_is m ys (exchanged_entry xs (m - 2 - p)) done.each ∙ sym exchanged_is

  pub exchanged-fits : (n : ℕ) → m ≤ n → AtMost n (exchanged p (stretch_column m xs 0 (all_of m)))
  exchanged-fits n l = record { count = m; within = l; arity = subst (Arity m) (sym exchanged_is) (arity_tree m (exchanged_entry xs (m - 2 - p))) }
