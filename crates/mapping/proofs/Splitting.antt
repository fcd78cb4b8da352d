-- Codes of classes in the place of a function's first arguments, and the cells that carry them.
use Rattle.std.proofs.Common.{◌≡◌, ℕ, zero, suc, ◌+◌, ◌-◌, ◌/◌, ◌%◌, ◌^◌, ◌<◌, ◌≤◌, Bool, false, cond, eqb, List, [], ◌++◌, map, length, get_or, take, drop, sym, refl, ap, ◌∙◌, subst, arith}
use Rattle.std.specs.List.{range_with_len}
use Rattle.std.proofs.lemmas.List.{length-append, length-drop, length-map}
use Rattle.std.proofs.lemmas.List.FromFn.{length-range_with_len, length-map-range_with_len, get_or-map-range_with_len, fill_by_all}
use Rattle.std.proofs.lemmas.Bool.{cond_both}
use Rattle.functions.specs.Functions.{Fn, bit, Arity, value, negated, exchanged, recoded}
use Rattle.functions.specs.Words.{number, bits}
use Rattle.functions.specs.Classes.{columns, classes, class_of}
use Rattle.functions.proofs.Words.{length_bits, number_bits, number_below, bits_number, get_or_bits}
use Rattle.functions.proofs.Values.{value_under}
use Rattle.functions.proofs.Rows.{value_recoded, arity_recoded, rows_same}
use Rattle.functions.proofs.Classes.{class_below, get_or_class, arity_classes}
use Rattle.functions.proofs.Negation.{negated_twice, exchanged_negated, columns_negated, classes_negated, class_of_negated, recoded_negated}
use Rattle.rules.specs.Codes.{Laws, holder}
use Rattle.rules.proofs.Holders.{holder-held}
use Rattle.families.specs.Tables.{entry_of, tabled}
use Rattle.families.proofs.TableEntries.{tabled_entry}
use Rattle.mapping.specs.States.{State, Cell, cell, coded, code_at, code_table, split_cells, split_state}

-- ---- classes and their codes

-- there is a class
pub some_class : (b : ℕ) (f : Fn) → 1 ≤ length (classes (columns b f))
some_class b f = omega (arith, class_below b f (bits b 0) (length_bits b 0))

-- the holder of a code is a class
holder-most : (code : ℕ → ℕ) (q k : ℕ) → holder code q (suc k) ≤ k
holder-most code q zero = cond_both (eqb (code 0) q) 0 0 (λ c. c ≤ 0) (λ _. omega arith) (λ _. omega arith)
holder-most code q (suc k) = cond_both (eqb (code (suc k)) q) (suc k) (holder code q (suc k)) (λ c. c ≤ suc k) (λ _. omega arith) (λ _. omega (arith, holder-most code q k))

pub holder-below : (code : ℕ → ℕ) (q k : ℕ) → 1 ≤ k → holder code q k < k
holder-below code q zero h = absurd (omega arith)
holder-below code q (suc k) h = omega (arith, holder-most code q k)

-- the negation has as many classes
pub count-negated : (b : ℕ) (f : Fn) → length (classes (columns b (negated f))) ≡ length (classes (columns b f))
count-negated b f = rw (columns_negated b f, classes_negated (columns b f)) (length-map (classes (columns b f)) negated)

-- what an exchange and codes make of the negation is the negation of what they make of the function
pub exchanged_back : (p : ℕ) (f : Fn) → negated (exchanged p (negated f)) ≡ exchanged p f
exchanged_back p f = ap negated (exchanged_negated p f) ∙ negated_twice (exchanged p f)

module _ (code : ℕ → ℕ → ℕ) (b j : ℕ) (f : Fn) where
  held_below : (q : ℕ) → q < 2 ^ j → holder (code j) q (length (classes (columns b f))) < length (classes (columns b f))
  held_below q l = holder-below (code j) q (length (classes (columns b f))) (some_class b f)

  pub coded-negated : coded code b j (negated f) ≡ negated (coded code b j f)
  coded-negated =
      ap (λ k. recoded j (classes (columns b (negated f))) (λ q. holder (code j) q k)) (count-negated b f)
      ∙ ap (λ cs. recoded j cs (λ q. holder (code j) q (length (classes (columns b f))))) (ap classes (columns_negated b f) ∙ classes_negated (columns b f))
      ∙ recoded_negated j (classes (columns b f)) (λ q. holder (code j) q (length (classes (columns b f)))) held_below

  pub coded_back : negated (coded code b j (negated f)) ≡ coded code b j f
  coded_back = ap negated coded-negated ∙ negated_twice (coded code b j f)

  pub arity-coded : (m : ℕ) → b ≤ m → Arity m f → Arity (j + (m - b)) (coded code b j f)
  arity-coded m h a = arity_recoded j (m - b) (classes (columns b f)) (λ q. holder (code j) q (length (classes (columns b f)))) held_below (arity_classes m b f a h)

  pub code_table-negated : (t : ℕ) → code_table code b j (negated f) t ≡ code_table code b j f t
  code_table-negated t = simp class_of_negated

  -- the entry of cell t's table at the bound assignment xs
  pub code_table_entry : (t : ℕ) (xs : List Bool) → length xs ≡ b → entry_of (code_table code b j f t) (number xs) ≡ eqb (code j (class_of b f xs) / 2 ^ (j - 1 - t) % 2) 1
  code_table_entry t xs e =
      tabled_entry (2 ^ b) (λ i. eqb (code_at code b j f i / 2 ^ (j - 1 - t) % 2) 1) (number xs) (rw (← e) (number_below xs))
      ∙ ap (λ ys. eqb (code j (class_of b f ys) / 2 ^ (j - 1 - t) % 2) 1) (subst (λ k. bits k (number xs) ≡ xs) e (bits_number xs))

  -- the entries of all tables at xs are the bits of the code of its class
  pub code_bits : (xs : List Bool) → length xs ≡ b → map (λ t. entry_of (code_table code b j f t) (number xs)) (range_with_len 0 j) ≡ bits j (code j (class_of b f xs))
  code_bits xs e = sym (fill_by_all (λ t. entry_of (code_table code b j f t) (number xs)) (bits j (code j (class_of b f xs))) j false (length_bits j (code j (class_of b f xs)))
      (λ t l. get_or_bits j (code j (class_of b f xs)) t l ∙ sym (code_table_entry t xs e)))

-- ---- a split's state

module _ (code : ℕ → ℕ → ℕ) (b j : ℕ) (s : State) where
  pub length-split_cells : length (split_cells code b j s) ≡ j
  length-split_cells = length-map-range_with_len (λ t. cell (take b s.live) (code_table code b j s.left t)) 0 j

  -- j cells more
  pub count-split : length (split_state code b j s).cells ≡ length s.cells + j
  count-split = length-append s.cells (split_cells code b j s) ∙ ap (λ k. length s.cells + k) length-split_cells

  -- j live signals in the place of b
  pub width-split : length (split_state code b j s).live ≡ j + (length s.live - b)
  width-split =
      let first = range_with_len (16 + length s.cells) j in
      length-append first (drop b s.live) ∙ omega (arith, length-range_with_len (16 + length s.cells) j, length-drop b s.live)

-- the function with codes in the place of its bound arguments has, at the code of their class, its own value
pub value-coded : {R : Type 0} (code : R → ℕ → ℕ → ℕ) → Laws code → (r : R) (b j : ℕ) (f : Fn) (xs ys : List Bool) → j ≤ 4 → length (classes (columns b f)) ≤ 2 ^ j → length xs ≡ b →
    value (coded (code r) b j f) (bits j (code r j (class_of b f xs)) ++ ys) ≡ value f (xs ++ ys)
value-coded code laws r b j f xs ys small few e =
    let cs = classes (columns b f) in
    let c = class_of b f xs in
    let known : c < length (classes (columns b f)) = class_below b f xs e in
    let held : holder (code r j) (number (bits j (code r j c))) (length cs) ≡ c =
    ap (λ q. holder (code r j) q (length cs)) (number_bits j (code r j c) (laws.below r j c small (omega arith)))
    ∙ holder-held (code r j) (length cs) c (λ d l. laws.apart r j d c small (omega arith) (omega arith)) known in
    value_recoded j cs (λ q. holder (code r j) q (length cs)) (bits j (code r j c)) ys (length_bits j (code r j c))
    ∙ ap (λ k. value (get_or cs k (bit false)) ys) held
    ∙ ap (λ g. value g ys) (get_or_class b f xs (bit false) e)
    ∙ sym (value_under f xs ys)

-- ---- what code computes

-- tables with the same entries
pub tabled-same : (n : ℕ) (row other : ℕ → Bool) → ((e : ℕ) → e < n → row e ≡ other e) → tabled n row ≡ tabled n other
tabled-same zero row other h = refl
tabled-same (suc n) row other h =
    ap (λ k. k + cond (row n) (2 ^ n) 0) (tabled-same n row other (λ e l. h e (omega arith))) ∙ ap (λ v. tabled n other + cond v (2 ^ n) 0) (h n (omega arith))

module _ (code : ℕ → ℕ → ℕ) (b j : ℕ) (f : Fn) where
  -- the table of cell t, from the class numbers of the bound assignments
  pub code_table_from : (t : ℕ) (class : ℕ → ℕ) → ((e : ℕ) → e < 2 ^ b → class e ≡ class_of b f (bits b e)) →
      tabled (2 ^ b) (λ e. eqb (code j (class e) / 2 ^ (j - 1 - t) % 2) 1) ≡ code_table code b j f t
  code_table_from t class h =
      tabled-same (2 ^ b) (λ e. eqb (code j (class e) / 2 ^ (j - 1 - t) % 2) 1) (λ e. eqb (code_at code b j f e / 2 ^ (j - 1 - t) % 2) 1) (λ e l. ap (λ c. eqb (code j c / 2 ^ (j - 1 - t) % 2) 1) (h e l))

  -- the function with codes, from a list of the classes and the class of each code
  pub coded_from : (cs : List Fn) (class : ℕ → ℕ) → cs ≡ classes (columns b f) → ((q : ℕ) → q < 2 ^ j → class q ≡ holder (code j) q (length (classes (columns b f)))) →
      recoded j cs class ≡ coded code b j f
  coded_from cs class known h =
      ap (λ ds. recoded j ds class) known
      ∙ rows_same j (λ q. get_or (classes (columns b f)) (class q) (bit false)) (λ q. get_or (classes (columns b f)) (holder (code j) q (length (classes (columns b f)))) (bit false))
      (λ q l. ap (λ c. get_or (classes (columns b f)) c (bit false)) (h q l))

  -- the cells, from their tables
  pub split_cells_from : (s : State) (table : ℕ → ℕ) → s.left ≡ negated f → ((t : ℕ) → t < j → table t ≡ code_table code b j f t) →
      map (λ t. cell (take b s.live) (table t)) (range_with_len 0 j) ≡ split_cells code b j s
  split_cells_from s table left h =
      let made : (ℕ → ℕ) → ℕ → Cell = λ row t. cell (take b s.live) (row t) in
      fill_by_all (made (code_table code b j s.left)) (map (made table) (range_with_len 0 j)) j (cell [] 0) (length-map-range_with_len (made table) 0 j)
      (λ t l.
      get_or-map-range_with_len (made table) 0 j t t (cell [] 0) l (omega arith)
      ∙ ap (cell (take b s.live)) (h t l ∙ sym (ap (λ g. code_table code b j g t) left ∙ code_table-negated code b j f t)))
