-- The cells of a page, read one after another.
use Rattle.std.proofs.Common.{◌≡◌, ℕ, zero, suc, ◌+◌, ◌<◌, ◌≤◌, List, [], ◌∷◌, ◌++◌, length, sym, refl, ap, ◌∙◌, zero-add, arith}
use Rattle.std.proofs.lemmas.List.{length_push}
use Rattle.frames.specs.Outcome.{past, line_after}
use Rattle.frames.specs.Pages.{Page, page, onward}
use Rattle.intake.specs.Networks.{NetCell, Network}
use Rattle.intake.specs.Page.{cell, cells_from}

-- of the page `all` with so many cells, the first `at` are cs, and the text xs from `line` on has the others
pub record Left (n K size count at : ℕ) (cs : List NetCell) (xs : List ℕ) (line : ℕ) (all : Page Network) : Type 0 where
  pub many : ℕ
  pub rest : at + many ≡ count
  pub long : length cs ≡ at
  pub same : cells_from n K size many cs xs line ≡ all

pub left_all : (n K size count : ℕ) (xs : List ℕ) (line : ℕ) → Left n K size count 0 [] xs line (cells_from n K size count [] xs line)
left_all n K size count xs line = record { many = count; rest = zero-add count; long = refl; same = refl }

-- how the page goes on, of which m cells are left after the next
abbrev pub then_cells : ℕ → ℕ → ℕ → ℕ → List NetCell → List ℕ → ℕ → NetCell → Page Network
then_cells n K size m cs xs line c = cells_from n K size m (cs ++ (c ∷ [])) (past xs) (line_after xs line)

module _ {n K size count at : ℕ} {cs : List NetCell} {xs : List ℕ} {line : ℕ} {all : Page Network} (l : Left n K size count at cs xs line all) where
  pub left-none : count ≤ at → all ≡ page (record { inputs = n; cells = cs }) xs line
  left-none h = elim l.many as (λ m. at + m ≡ count → cells_from n K size m cs xs line ≡ all → all ≡ page (record { inputs = n; cells = cs }) xs line) [
    | zero ↦ λ _ e. sym e
    | suc m ↦ λ e _. absurd (omega arith)
  ] l.rest l.same

  -- one cell more
  pub left-more : at < count → (m : ℕ) × (at + 1 + m ≡ count) × (onward line (cell n K size at xs line) (then_cells n K size m cs xs line) ≡ all)
  left-more h = elim l.many as (λ m. at + m ≡ count → cells_from n K size m cs xs line ≡ all → (m : ℕ) × (at + 1 + m ≡ count) × (onward line (cell n K size at xs line) (then_cells n K size m cs xs line) ≡ all)) [
    | zero ↦ λ e _. absurd (omega arith)
    | suc m ↦ λ e s. (m, omega arith, ap (λ (k : ℕ). onward line (cell n K size k xs line) (then_cells n K size m cs xs line)) (sym l.long) ∙ s)
  ] l.rest l.same

  pub left-got : (m : ℕ) (c : NetCell) (ys : List ℕ) (next : ℕ) → at + 1 + m ≡ count → then_cells n K size m cs xs line c ≡ all → ys ≡ past xs → next ≡ line_after xs line → Left n K size count (at + 1) (cs ++ (c ∷ [])) ys next all
  left-got m c ys next r e p q = record { many = m; rest = r; long = length_push cs c ∙ ap (λ (k : ℕ). k + 1) l.long; same = rw (p, q) e }
