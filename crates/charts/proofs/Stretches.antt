-- Stretches of a table: whether they are there, what they mean and when they mean the same.
use Rattle.std.proofs.Common.{◌≡◌, ℕ, ◌+◌, ◌-◌, ◌^◌, ◌<◌, ◌≤◌, Bool, true, false, eqb, leb, ◌++◌, List, length, get_or, MatchBool, sym, refl, ◌∙◌, subst, zero-add, inl, inr, arith, pow_mono}
use Rattle.std.specs.List.{range_with_len, AllWithin, HoldsAt}
use Rattle.std.proofs.lemmas.List.{get_or_append_left}
use Rattle.std.proofs.lemmas.List.FromFn.{get_or-range_with_len, length-range_with_len}
use Rattle.std.proofs.lemmas.Bool.{and_parts, and_from, eqb-true, leb-true, eq-eqb, le-leb, cases_Bool}
use Rattle.std.proofs.lemmas.Bool.Decides.{nat_tests}
use Rattle.functions.specs.Functions.{Arity, tree}
use Rattle.functions.specs.Classes.{same_fn}
use Rattle.functions.proofs.Rows.{tree-same, tree-entries, arity_tree}
use Rattle.functions.proofs.Values.{same-sound, same_self}
use Rattle.charts.specs.Stretches.{there, entry_of, stretch_column, all_of}
use Rattle.charts.specs.BitCharts.{bit_function, BitFunctionLaws}
use Rattle.charts.specs.declared.bit_chart.BitChart.{BitChart}
use Rattle.charts.specs.declared.bit_chart.Stretch.{Stretch}

-- a table of at most 12 arguments has at most 4096 entries
pub table_size : (m : ℕ) → m ≤ 12 → 2 ^ m ≤ 4096
table_size m h = pow_mono h

-- a stretch of k arguments has at most the entries of the table
pub part_fits : (m d : ℕ) → 2 ^ (m - d) ≤ 2 ^ (m - 0)
part_fits m d = pow_mono (omega arith)

-- the test that cannot wrap
pub there_test : (m d n : ℕ) (p : Stretch) → n ≡ 2 ^ (m - 0) → p.len ≡ 2 ^ (m - d) → leb p.start (n - p.len) ≡ there m (m - d) p
there_test m d n p whole long =
    let fits = part_fits m d in
    let all : m - 0 ≡ m = omega arith in
    let size : n ≡ 2 ^ m = rw all at whole in
    grind (arith, nat_tests)

pub there-length : (m k : ℕ) (p : Stretch) → there m k p ≡ true → p.len ≡ 2 ^ k
there-length m k p h = eqb-true p.len (2 ^ k) (and_parts (eqb p.len (2 ^ k)) (leb (p.start + p.len) (2 ^ m)) h).0

pub there-inside : (m k : ℕ) (p : Stretch) → there m k p ≡ true → p.start + p.len ≤ 2 ^ m
there-inside m k p h = leb-true (p.start + p.len) (2 ^ m) (and_parts (eqb p.len (2 ^ k)) (leb (p.start + p.len) (2 ^ m)) h).1

-- the whole table means the function of its entries
pub whole_is : (m : ℕ) (table : List Bool) (t : ℕ → Bool) → ((i : ℕ) → i < 2 ^ m → get_or table i false ≡ t i) → stretch_column m table 0 (all_of m) ≡ tree m t
whole_is m table t each =
    let none : m - 0 ≡ m = omega arith in
    let here : there m m (all_of m) ≡ true = and_from (eqb (2 ^ m) (2 ^ m)) (leb (0 + 2 ^ m) (2 ^ m)) (eq-eqb (2 ^ m) (2 ^ m) refl) (le-leb (0 + 2 ^ m) (2 ^ m) (omega arith)) in
    rw (none, here) (tree-same m (λ i. get_or table (0 + i) false) t (λ i h. let z : 0 + i ≡ i = omega arith in rw z (each i h)))

pub bit_function_laws : BitFunctionLaws
bit_function_laws =
    let entries : (c : BitChart) → bit_function c ≡ tree c.count (λ i. get_or c.table i false) = λ c. whole_is c.count c.table (λ i. get_or c.table i false) (λ i h. refl) in
    let arity : (c : BitChart) → Arity c.count (bit_function c) = λ c. subst (Arity c.count) (sym (entries c)) (arity_tree c.count (λ i. get_or c.table i false)) in
    record { entries = entries; arity = arity; fits = λ c. record { count = c.count; within = c.small; arity = arity c } }

-- a table that begins with the entries
pub loads : (n : ℕ) (xs ys zs : List Bool) → ys ≡ xs → 2 ^ n ≤ length xs → stretch_column n (ys ++ zs) 0 (all_of n) ≡ tree n (λ i. get_or xs i false)
loads n xs ys zs is long = whole_is n (ys ++ zs) (λ i. get_or xs i false) (λ i l. rw is (get_or_append_left xs zs false i (omega arith)))

number_at : (n i : ℕ) → i < n → get_or (range_with_len 0 n) i 0 ≡ i
number_at n i l = get_or-range_with_len 0 n i 0 l ∙ zero-add i

-- two stretches with the same entries mean the same, and no others
module _ (m : ℕ) (table : List Bool) (d k : ℕ) (left : k ≡ m - d) (a b : Stretch) where
  pub entries-same : ((i : ℕ) → i < 2 ^ k → entry_of m table k a i ≡ entry_of m table k b i) → true ≡ same_fn (stretch_column m table d a) (stretch_column m table d b)
  entries-same h = rw (← left, tree-same k (entry_of m table k a) (entry_of m table k b) h) (sym (same_self (tree k (entry_of m table k b))))

  pub entries_differ : (i : ℕ) → i < 2 ^ k → (entry_of m table k a i ≡ entry_of m table k b i → ⊥) → false ≡ same_fn (stretch_column m table d a) (stretch_column m table d b)
  entries_differ i h ne = elim (cases_Bool (same_fn (stretch_column m table d a) (stretch_column m table d b))) [
    | inl e ↦
        let same : tree k (entry_of m table k a) ≡ tree k (entry_of m table k b) = rw (← left) at (same-sound (stretch_column m table d a) (stretch_column m table d b) e) in
        absurd (ne (tree-entries k (entry_of m table k a) (entry_of m table k b) same i h))
    | inr e ↦ sym e
  ]

  -- the answer of a search for an entry that differs
  pub entries-search : (r : Bool) (n : ℕ) → n ≡ 2 ^ k →
      MatchBool r (AllWithin (λ i. entry_of m table k a i ≡ entry_of m table k b i) (range_with_len 0 n) 0 (length (range_with_len 0 n)))
      ((i : ℕ) × (i < length (range_with_len 0 n)) × HoldsAt (λ i. entry_of m table k a i ≡ entry_of m table k b i → ⊥) (range_with_len 0 n) i) →
      r ≡ same_fn (stretch_column m table d a) (stretch_column m table d b)
  entries-search true n size h =
      entries-same (λ i l. subst (λ j. entry_of m table k a j ≡ entry_of m table k b j) (number_at n i (omega arith)) (h i 0 (omega arith) (omega (arith, length-range_with_len 0 n))))
  entries-search false n size (i, l, h) =
      let inside : i < n = omega (arith, length-range_with_len 0 n) in
      entries_differ i (omega arith) (subst (λ j. entry_of m table k a j ≡ entry_of m table k b j → ⊥) (number_at n i inside) (h 0))
