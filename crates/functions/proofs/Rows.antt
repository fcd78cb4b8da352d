-- Functions made of rows, of a table or of the columns of classes.
use Rattle.std.proofs.Common.{◌≡◌, ℕ, zero, suc, ◌+◌, ◌*◌, ◌^◌, ◌<◌, Bool, true, false, List, [], ◌∷◌, ◌++◌, length, get_or, sym, refl, ap, ◌∙◌, add-mul, arith, pow-add}
use native.Mathlib.Nat.{two-pow-succ}
use Rattle.std.specs.List.{AllByRecursion as All}
use Rattle.std.proofs.ByRecursion.{All-get_or}
use Rattle.std.proofs.lemmas.List.{append-nil}
use Rattle.functions.specs.Words.{number, bits}
use Rattle.functions.specs.Functions.{Fn, bit, fork, Arity, value, under, rows, tree, recoded}
use Rattle.functions.proofs.Words.{length_bits, number_bits}
use Rattle.functions.proofs.Values.{value_under}

-- each row is a column
pub under-rows : (j : ℕ) (r : ℕ → Fn) (xs : List Bool) → length xs ≡ j → under (rows j r) xs ≡ r (number xs)
under-rows zero r [] e = refl
under-rows zero r (x ∷ xs) e = absurd (omega arith)
under-rows (suc j) r [] e = absurd (omega arith)
under-rows (suc j) r (false ∷ xs) e = under-rows j r xs (omega arith)
under-rows (suc j) r (true ∷ xs) e = let long : length xs ≡ j = omega arith in rw long (under-rows j (λ i. r (2 ^ j + i)) xs long)

pub value_rows : (j : ℕ) (r : ℕ → Fn) (xs ys : List Bool) → length xs ≡ j → value (rows j r) (xs ++ ys) ≡ value (r (number xs)) ys
value_rows j r xs ys e = value_under (rows j r) xs ys ∙ ap (λ f. value f ys) (under-rows j r xs e)

pub value_tree : (k : ℕ) (t : ℕ → Bool) (xs : List Bool) → length xs ≡ k → value (tree k t) xs ≡ t (number xs)
value_tree k t xs e = ap (value (tree k t)) (sym (append-nil xs)) ∙ value_rows k (λ i. bit (t i)) xs [] e

pub value_recoded : (j : ℕ) (cs : List Fn) (class : ℕ → ℕ) (xs ys : List Bool) → length xs ≡ j →
    value (recoded j cs class) (xs ++ ys) ≡ value (get_or cs (class (number xs)) (bit false)) ys
value_recoded j cs class = value_rows j (λ q. get_or cs (class q) (bit false))

pub arity_rows : (j k : ℕ) (r : ℕ → Fn) → ((i : ℕ) → i < 2 ^ j → Arity k (r i)) → Arity (j + k) (rows j r)
arity_rows zero k r h = let e : 0 + k ≡ k = omega arith in rw e (h 0 (omega arith))
arity_rows (suc j) k r h =
    let e : suc j + k ≡ suc (j + k) = omega arith in
    rw e (
      arity_rows j k r (λ i l. h i (omega (arith, two-pow-succ j))),
      arity_rows j k (λ i. r (2 ^ j + i)) (λ i l. h (2 ^ j + i) (omega (arith, two-pow-succ j))),
    )

pub arity_tree : (k : ℕ) (t : ℕ → Bool) → Arity k (tree k t)
arity_tree zero t = tt
arity_tree (suc k) t = (arity_tree k t, arity_tree k (λ i. t (2 ^ k + i)))

pub arity_recoded : (j k : ℕ) (cs : List Fn) (class : ℕ → ℕ) → ((q : ℕ) → q < 2 ^ j → class q < length cs) → All (Arity k) cs → Arity (j + k) (recoded j cs class)
arity_recoded j k cs class h a = arity_rows j k (λ q. get_or cs (class q) (bit false)) (λ q l. All-get_or (Arity k) cs (class q) (bit false) (h q l) a)

-- equal rows make equal functions
pub rows_same : (j : ℕ) (r s : ℕ → Fn) → ((i : ℕ) → i < 2 ^ j → r i ≡ s i) → rows j r ≡ rows j s
rows_same zero r s h = h 0 (omega arith)
rows_same (suc j) r s h = rw (
  rows_same j r s (λ i l. h i (omega (arith, two-pow-succ j))),
  rows_same j (λ i. r (2 ^ j + i)) (λ i. s (2 ^ j + i)) (λ i l. h (2 ^ j + i) (omega (arith, two-pow-succ j))),
)

pub tree-same : (k : ℕ) (t u : ℕ → Bool) → ((i : ℕ) → i < 2 ^ k → t i ≡ u i) → tree k t ≡ tree k u
tree-same k t u h = rows_same k (λ i. bit (t i)) (λ i. bit (u i)) (λ i l. ap bit (h i l))

-- equal trees have equal entries
pub tree-entries : (k : ℕ) (t u : ℕ → Bool) → tree k t ≡ tree k u → (i : ℕ) → i < 2 ^ k → t i ≡ u i
tree-entries k t u e i h =
    let at : (v : ℕ → Bool) → value (tree k v) (bits k i) ≡ v i = λ v. value_tree k v (bits k i) (length_bits k i) ∙ ap v (number_bits k i h) in
    sym (at t) ∙ ap (λ f. value f (bits k i)) e ∙ at u

-- rows of rows: the number of both is the rows' number followed by that within a row
pub rows-rows : (j k : ℕ) (r : ℕ → Fn) → rows (j + k) r ≡ rows j (λ q. rows k (λ i. r (q * 2 ^ k + i)))
rows-rows zero k r =
    let e : 0 + k ≡ k = omega arith in
    rw e (rows_same k r (λ i. r (0 * 2 ^ k + i)) (λ i l. let z : i ≡ 0 * 2 ^ k + i = omega arith in ap r z))
rows-rows (suc j) k r =
    let e : suc j + k ≡ suc (j + k) = omega arith in
    let far : (q i : ℕ) → 2 ^ (j + k) + (q * 2 ^ k + i) ≡ (2 ^ j + q) * 2 ^ k + i = λ q i. omega (arith, pow-add 2 j k, add-mul (2 ^ j) q (2 ^ k)) in
    rw (e, rows-rows j k r, rows-rows j k (λ i. r (2 ^ (j + k) + i))) (
    ap (fork (rows j (λ q. rows k (λ i. r (q * 2 ^ k + i)))))
    (rows_same j (λ q. rows k (λ i. r (2 ^ (j + k) + (q * 2 ^ k + i)))) (λ q. rows k (λ i. r ((2 ^ j + q) * 2 ^ k + i)))
    (λ q l. rows_same k (λ i. r (2 ^ (j + k) + (q * 2 ^ k + i))) (λ i. r ((2 ^ j + q) * 2 ^ k + i)) (λ i m. ap r (far q i))))
    )
