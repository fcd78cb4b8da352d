-- The frames of a page, read one after another.
use Rattle.std.proofs.Common.{◌≡◌, ℕ, zero, suc, ◌+◌, ◌-◌, ◌*◌, ◌<◌, ◌≤◌, List, [], ◌++◌, length, take, drop, IfSome, Some, Ok, Option, sym, refl, ap, ◌∙◌, suc-mul, zero-add, zero-mul, arith}
use Rattle.std.proofs.lemmas.List.{length-append, length-take-le, length-drop}
use Rattle.frames.specs.declared.frame.Frame.{Frame}
use Rattle.frames.specs.Outcome.{body, past, line_after}
use Rattle.frames.specs.Pages.{Page, page, onward}
use Rattle.frames.specs.Records.{answered}
use Rattle.frames.proofs.Pages.{onward-some}
use Rattle.bitpages.specs.Page.{Packed, bits, carried, packed, shares}
use Rattle.bitpages.specs.Table.{size, share, count}
use Rattle.bitpages.proofs.Sizes.{share-low, whole}

-- of the page `all` of n arguments, the first `at` bytes are ds, and the text xs from `line` on has the other frames
pub record Left (n at : ℕ) (ds xs : List ℕ) (line : ℕ) (all : Page Packed) : Type 0 where
  pub many : ℕ
  pub rest : at + many * share n ≡ size n
  pub same : shares n many ds xs line ≡ all

pub left_all : (n : ℕ) (xs : List ℕ) (line : ℕ) → Left n 0 [] xs line (shares n (count n) [] xs line)
left_all n xs line = record { many = count n; rest = zero-add (count n * share n) ∙ whole n; same = refl }

-- how the page goes on, of which m frames are left after the next
abbrev pub then_shares : ℕ → ℕ → List ℕ → List ℕ → ℕ → List ℕ → Page Packed
then_shares n m ds xs line es = shares n m (ds ++ es) (past xs) (line_after xs line)

module _ {n at : ℕ} {ds xs : List ℕ} {line : ℕ} {all : Page Packed} (l : Left n at ds xs line all) where
  pub left-none : size n ≤ at → all ≡ page (packed n ds) xs line
  left-none h = elim l.many as (λ m. at + m * share n ≡ size n → shares n m ds xs line ≡ all → all ≡ page (packed n ds) xs line) [
    | zero ↦ λ _ e. sym e
    | suc m ↦ λ e _. absurd (omega (arith, suc-mul m (share n), share-low n))
  ] l.rest l.same

  -- one frame more
  module _ (h : at < size n) where
    pub left-more : (m : ℕ) × (at + share n + m * share n ≡ size n) × (onward line (bits n xs line) (then_shares n m ds xs line) ≡ all)
    left-more = elim l.many as (λ m. at + m * share n ≡ size n → shares n m ds xs line ≡ all → (m : ℕ) × (at + share n + m * share n ≡ size n) × (onward line (bits n xs line) (then_shares n m ds xs line) ≡ all)) [
      | zero ↦ λ e _. absurd (omega (arith, zero-mul (share n)))
      | suc m ↦ λ e s. (m, omega (arith, suc-mul m (share n)), s)
    ] l.rest l.same

    pub left-got : (m : ℕ) (es ys : List ℕ) (next : ℕ) → at + share n + m * share n ≡ size n → then_shares n m ds xs line es ≡ all → ys ≡ past xs → next ≡ line_after xs line → Left n (at + share n) (ds ++ es) ys next all
    left-got m es ys next r e p q = record { many = m; rest = r; same = rw (p, q) e }

length-carried : (n : ℕ) (bs : List ℕ) → length bs ≡ share n + 2 → length (carried n bs) ≡ share n
length-carried n bs h = length-take-le (share n) (drop 1 bs) (let d = length-drop 1 bs in omega arith)

-- the share of the frame that was read, put behind those before it
module _ (n s line next : ℕ) (ds es bs xs ys : List ℕ) (all : Page Packed) (o : Option Frame) (f : Frame) (l : Left n (length ds) ds xs line all) (less : length ds < size n) (is : s ≡ share n) where
  pub next_share : answered (λ (f : Frame). carried n (body f)) (Ok o) ≡ bits n xs line → o ≡ Some f → IfSome o (λ f. length (body f) ≡ share n + 2) → bs ≡ body f → es ≡ take (1 + s - 1) (drop 1 bs) → ys ≡ past xs → next ≡ line_after xs line
      → (length (ds ++ es) ≡ length ds + share n) × Left n (length (ds ++ es)) (ds ++ es) ys next all
  next_share a some h bytes e p q =
      let m = left-more l less in
      let b = onward-some (λ (f : Frame). carried n (body f)) line (then_shares n m.0 ds xs line) m.2 o f a some in
      let long : length (body f) ≡ share n + 2 = rw some at h in
      let k : 1 + s - 1 ≡ share n = omega arith in
      let c : es ≡ carried n (body f) = e ∙ ap (λ (k : ℕ). take k (drop 1 bs)) k ∙ ap (carried n) bytes in
      let wide : length (ds ++ es) ≡ length ds + share n = length-append ds es ∙ ap (λ (xs : List ℕ). length ds + length xs) c ∙ ap (λ (k : ℕ). length ds + k) (length-carried n (body f) long) in
      let g = left-got l less m.0 (carried n (body f)) ys next m.1 b p q in
      (wide, rw (wide, c) g)
