-- The numbers of assignments, and the entries of widened tables.
use Rattle.std.proofs.Common.{◌≡◌, ℕ, ◌+◌, ◌-◌, ◌*◌, ◌/◌, ◌^◌, ◌<◌, ◌≤◌, Bool, true, false, List, [], ◌∷◌, ◌++◌, length, ap, ◌∙◌, subst, add-mul, arith, lit<, length-append, pow-add}
use native.Mathlib.Nat.{min-eq_left, two-pow-succ}
use lib.Pow.{high}
use Rattle.families.specs.Tables.{entry_of, tabled, assignment}
use Rattle.families.specs.Widening.{widened_table, WideningLaws}
use Rattle.families.proofs.TableEntries.{entry_past, tabled-below, tabled_entry}

pub assignment-below : (xs : List Bool) → assignment xs < 2 ^ length xs
assignment-below [] = lit< tt
assignment-below (true ∷ xs) = omega (arith, assignment-below xs, two-pow-succ (length xs))
assignment-below (false ∷ xs) = omega (arith, assignment-below xs, two-pow-succ (length xs))

-- pins that come last are the digits of least weight
pub assignment-append : (xs ys : List Bool) → assignment (xs ++ ys) ≡ assignment xs * 2 ^ length ys + assignment ys
assignment-append [] ys = omega arith
assignment-append (false ∷ xs) ys = assignment-append xs ys
assignment-append (true ∷ xs) ys =
    let size : 2 ^ length (xs ++ ys) ≡ 2 ^ length xs * 2 ^ length ys = ap (λ n. 2 ^ n) (length-append xs ys) ∙ pow-add 2 (length xs) (length ys) in
    omega (arith, size, assignment-append xs ys, add-mul (2 ^ length xs) (assignment xs) (2 ^ length ys))

module _ (k b t : ℕ) (few : k ≤ 5) where
  pub widened_as : widened_table k b t ≡ tabled (2 ^ k) (λ e. entry_of t (e / 2 ^ (k - b)))
  widened_as = ap (λ n. tabled (2 ^ n) (λ e. entry_of t (e / 2 ^ (n - b)))) (min-eq_left few)

  pub widened_entries : (e : ℕ) → e < 2 ^ k → entry_of (widened_table k b t) e ≡ entry_of t (e / 2 ^ (k - b))
  widened_entries e h = ap (λ w. entry_of w e) widened_as ∙ tabled_entry (2 ^ k) (λ i. entry_of t (i / 2 ^ (k - b))) e h

  pub widened_rest : (e : ℕ) → 2 ^ k ≤ e → entry_of (widened_table k b t) e ≡ false
  widened_rest e h =
      ap (λ w. entry_of w e) widened_as ∙ entry_past (tabled (2 ^ k) (λ i. entry_of t (i / 2 ^ (k - b)))) (2 ^ k) e (tabled-below (2 ^ k) (λ i. entry_of t (i / 2 ^ (k - b)))) h

pub widened_assignments : (k t : ℕ) (xs ys : List Bool) → k ≤ 5 → length xs + length ys ≡ k →
    entry_of (widened_table k (length xs) t) (assignment (xs ++ ys)) ≡ entry_of t (assignment xs)
widened_assignments k t xs ys few all =
    let unused : k - length xs ≡ length ys = omega arith in
    let inside : assignment (xs ++ ys) < 2 ^ k = subst (λ (n : ℕ). assignment (xs ++ ys) < 2 ^ n) (length-append xs ys ∙ all) (assignment-below (xs ++ ys)) in
    let used : assignment (xs ++ ys) / 2 ^ length ys ≡ assignment xs =
    ap (λ n. n / 2 ^ length ys) (assignment-append xs ys) ∙ high (assignment xs) (length ys) (assignment-below ys) in
    widened_entries k (length xs) t few (assignment (xs ++ ys)) inside
    ∙ (ap (λ n. entry_of t (assignment (xs ++ ys) / 2 ^ n)) unused ∙ ap (entry_of t) used)

pub widening_laws : WideningLaws
widening_laws = record {
  entries = λ k b t e few. widened_entries k b t few e;
  rest = λ k b t e few. widened_rest k b t few e;
  assignments = widened_assignments;
}
