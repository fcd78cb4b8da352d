-- A table filled row by row means the recoded function.
use Rattle.std.proofs.Common.{◌≡◌, ℕ, ◌+◌, ◌-◌, ◌*◌, ◌/◌, ◌^◌, ◌<◌, ◌≤◌, Bool, false, List, map, length, get_or, sym, ap, ◌∙◌, subst, arith}
use Rattle.std.proofs.lemmas.Nat.{div-mul-add, mod-mul-add, shr_below}
use Rattle.std.proofs.lemmas.List.{get_or-map}
use Rattle.functions.specs.Functions.{Fn, bit, Arity, rows, tree, recoded}
use Rattle.functions.proofs.Values.{one_arity}
use Rattle.functions.proofs.Rows.{rows_same, rows-rows, tree-same, arity_tree}
use Rattle.charts.specs.Changes.{Recodable}
use Rattle.charts.specs.Stretches.{entry_of, stretch_column, all_of, nowhere}
use Rattle.charts.specs.Tables.{Filled, row_entry}
use Rattle.charts.specs.BitCharts.{AtMost}
use Rattle.charts.specs.declared.bit_chart.Stretch.{Stretch}
use Rattle.charts.proofs.Stretches.{whole_is}

module _ (m b j : ℕ) (table : List Bool) (places : List Stretch) (class_of : List ℕ) (ok : Recodable m b j (length places) class_of) where
  abbrev entries : ℕ → Bool
  entries = row_entry m table (m - b) places class_of

  abbrev new : Fn
  new = recoded j (map (stretch_column m table b) places) (λ q. get_or class_of q 0)

  row_is : (q : ℕ) → q < 2 ^ j → get_or (map (stretch_column m table b) places) (get_or class_of q 0) (bit false) ≡ rows (m - b) (λ i. bit (entries (q * 2 ^ (m - b) + i)))
  row_is q l =
      let p = get_or places (get_or class_of q 0) nowhere in
      get_or-map (stretch_column m table b) places (get_or class_of q 0) nowhere (bit false) (ok.placed q l)
      ∙ tree-same (m - b) (entry_of m table (m - b) p) (λ i. entries (q * 2 ^ (m - b) + i)) (λ i h. rw (div-mul-add q (2 ^ (m - b)) i h, mod-mul-add q (2 ^ (m - b)) i h))

  recoded_is : new ≡ tree (m - b + j) entries
  recoded_is =
      let flip : j + (m - b) ≡ m - b + j = omega arith in
      rows_same j (λ q. get_or (map (stretch_column m table b) places) (get_or class_of q 0) (bit false)) (λ q. rows (m - b) (λ i. bit (entries (q * 2 ^ (m - b) + i)))) row_is
      ∙ sym (rows-rows j (m - b) (λ x. bit (entries x)))
      ∙ ap (λ n. tree n entries) flip

  pub recoded-means : (ys : List Bool) → Filled (2 ^ (m - b + j)) entries ys → stretch_column (m - b + j) ys 0 (all_of (m - b + j)) ≡ new
  recoded-means ys done = whole_is (m - b + j) ys entries done.each ∙ sym recoded_is

  recoded-arity : Arity (m - b + j) new
  recoded-arity = subst (Arity (m - b + j)) (sym recoded_is) (arity_tree (m - b + j) entries)

  pub recoded-fits : (n : ℕ) → m - b + j ≤ n → AtMost n new
  recoded-fits n l = record { count = m - b + j; within = l; arity = recoded-arity }

  pub recoded_too_wide : (n : ℕ) → n < m - b + j → AtMost n new → ⊥
  recoded_too_wide n l w = omega (arith, one_arity w.count (m - b + j) new w.arity recoded-arity, w.within)

-- the code of the entry x
pub code_below : (k j x : ℕ) → x < 2 ^ (k + j) → x / 2 ^ k < 2 ^ j
code_below k j x h = let flip : k + j ≡ j + k = omega arith in shr_below x j k (subst (λ n. x < 2 ^ n) flip h)

-- it and its class are there
module _ {m b j n : ℕ} {class_of : List ℕ} (ok : Recodable m b j n class_of) (x size : ℕ) (is : size ≡ 2 ^ (m - b)) (inside : x < 2 ^ (m - b + j)) where
  below : x / size < 2 ^ j
  below = rw is (code_below (m - b) j x inside)

  pub code_there : x / size < length class_of
  code_there = omega (arith, below, ok.coded)

  pub class_there : get_or class_of (x / size) 0 < n
  class_there = ok.placed (x / size) below
