-- The lines of a text that were read so far.
use Rattle.std.proofs.Common.{◌≡◌, ℕ, ◌+◌, ◌-◌, ◌≤◌, cond, List, [], ◌∷◌, ◌++◌, length, string_bytes, count_by, sym, refl, ap, ◌∙◌, subst, append_assoc, append-nil, arith}
use Rattle.std.proofs.lemmas.List.{length_push}
use Rattle.std.proofs.lemmas.List.Sums.{sum_by-cons, sum_by_push, count_by-le-length}
use Rattle.frames.specs.Outcome.{Outcome, frame, end, fault, reading, past, line_after}
use Rattle.frames.proofs.Lines.{line-more, less_left, some_left}
use Rattle.frames.proofs.RoundTrip.{end_read}
use Rattle.reports.specs.Checked.{Lines, here, next, outcome_text, lines_text, is_good, is_fault, total_text, Checked}
use Rattle.reports.specs.declared.check.Report.{Report}

-- one line more
pub lines_push : {xs ys : List ℕ} {line last : ℕ} {os : List Outcome} (o : Outcome) → Lines xs line os ys last → reading ys last ≡ o → (o ≡ end → ⊥) → Lines xs line (os ++ (o ∷ [])) (past ys) (line_after ys last)
lines_push o here e more = next e more here
lines_push o (next f some rest) e more = next f some (lines_push o rest e more)

pub text_push : (line : ℕ) (os : List Outcome) (o : Outcome) → lines_text line (os ++ (o ∷ [])) ≡ lines_text line os ++ outcome_text (line + length os) o
text_push line [] o = let e : line + 0 ≡ line = omega arith in append-nil (outcome_text line o) ∙ ap (λ (k : ℕ). outcome_text k o) (sym e)
text_push line (p ∷ os) o =
    let e : line + 1 + length os ≡ line + length (p ∷ os) = omega arith in
    ap (λ (t : List ℕ). outcome_text line p ++ t) (text_push (line + 1) os o ∙ ap (λ (k : ℕ). lines_text (line + 1) os ++ outcome_text k o) e) ∙ sym (append_assoc (outcome_text line p) (lines_text (line + 1) os) _)

-- what was read of xs and said of it, where the reader has ys left at a line
pub record SoFar (xs ys : List ℕ) (line : ℕ) (said : List ℕ) (faulty : ℕ) : Type 0 where
  pub outcomes : List Outcome
  pub read : Lines xs 1 outcomes ys line
  pub numbered : line ≡ length outcomes + 1
  pub text : said ≡ lines_text 1 outcomes
  pub counted : faulty ≡ count_by is_fault outcomes

pub so_far_none : (xs ys said : List ℕ) (line : ℕ) → ys ≡ xs → line ≡ 1 → said ≡ [] → SoFar xs ys line said 0
so_far_none xs ys said line e f g = rw (e, f, g) (record { outcomes = []; read = here; numbered = refl; text = refl; counted = refl })

-- each line has a byte
lines_long : (xs ys : List ℕ) (line last : ℕ) (os : List Outcome) → Lines xs line os ys last → length os + length ys ≤ length xs
lines_long xs ys line last [] here = omega arith
lines_long xs ys line last (o ∷ os) (next e more rest) = let l = less_left xs line (λ z. more (sym e ∙ z)) in let r = lines_long (past xs) ys (line_after xs line) last os rest in omega arith

-- each line is good or faulty
one_of_two : (o : Outcome) → (o ≡ end → ⊥) → cond (is_good o) 1 0 + cond (is_fault o) 1 0 ≡ 1
one_of_two (frame bs) more = refl
one_of_two end more = absurd (more refl)
one_of_two (fault w e) more = refl

good_or_faulty : (xs ys : List ℕ) (line last : ℕ) (os : List Outcome) → Lines xs line os ys last → count_by is_good os + count_by is_fault os ≡ length os
good_or_faulty xs ys line last [] here = refl
good_or_faulty xs ys line last (o ∷ os) (next e more rest) =
    let r = good_or_faulty (past xs) ys (line_after xs line) last os rest in
    let t = one_of_two o more in
    let g = sum_by-cons (λ x. cond (is_good x) 1 0) o os in
    let f = sum_by-cons (λ x. cond (is_fault x) 1 0) o os in
    omega arith

module _ {xs ys said : List ℕ} {line faulty : ℕ} (so : SoFar xs ys line said faulty) where
  pub few_faulty : faulty + length ys ≤ length xs
  few_faulty = let a = count_by-le-length is_fault so.outcomes in let b = lines_long xs ys 1 line so.outcomes so.read in let c = so.counted in omega arith

  pub some-line : 1 ≤ line
  some-line = let n = so.numbered in omega arith

  pub so_far_more : (o : Outcome) → reading ys line ≡ o → (o ≡ end → ⊥) → (after : List ℕ) (now-line : ℕ) (now-said : List ℕ) (now-faulty : ℕ) →
      after ≡ past ys → now-line ≡ line_after ys line → now-said ≡ said ++ outcome_text line o → now-faulty ≡ faulty + cond (is_fault o) 1 0 → SoFar xs after now-line now-said now-faulty
  so_far_more o e more after now-line now-said now-faulty ea el es ef =
      let n : line_after ys line ≡ line + 1 = line-more ys line (some_left ys line (λ z. more (sym e ∙ z))) in
      let at : line ≡ 1 + length so.outcomes = let m = so.numbered in omega arith in
      let len = length_push so.outcomes o in
      let t : said ++ outcome_text line o ≡ lines_text 1 (so.outcomes ++ (o ∷ [])) = (λ i. so.text i ++ outcome_text (at i) o) ∙ sym (text_push 1 so.outcomes o) in
      let k : faulty + cond (is_fault o) 1 0 ≡ count_by is_fault (so.outcomes ++ (o ∷ [])) = ap (λ (j : ℕ). j + cond (is_fault o) 1 0) so.counted ∙ sym (sum_by_push (λ x. cond (is_fault x) 1 0) so.outcomes o) in
      rw (ea, el, es, ef) (record {
        outcomes = so.outcomes ++ (o ∷ []);
        read = lines_push o so.read e more;
        numbered = let m = so.numbered in omega arith;
        text = t;
        counted = k;
      })

  pub fewer_faulty : faulty ≤ line - 1
  fewer_faulty = let a = count_by-le-length is_fault so.outcomes in let n = so.numbered in let c = so.counted in omega arith

  -- at the end
  pub so_far_all : reading ys line ≡ end → (r : Report) (lines good : ℕ) → lines ≡ line - 1 → good ≡ lines - faulty → string_bytes r.text ≡ said ++ total_text lines good faulty → r.faulty ≡ faulty → Checked xs r
  so_far_all e r lines good lines_are good-are said-is faulty-is =
      let n = so.numbered in
      let k : lines ≡ length so.outcomes = omega arith in
      let both = good_or_faulty xs ys 1 line so.outcomes so.read in
      let g : good ≡ count_by is_good so.outcomes = let c = so.counted in omega arith in
      let none : ys ≡ [] = end_read ys line e in
      record {
        outcomes = so.outcomes;
        read = subst (λ (m : ℕ). Lines xs 1 so.outcomes [] m) n (subst (λ (zs : List ℕ). Lines xs 1 so.outcomes zs line) none so.read);
        said = said-is ∙ (λ i. so.text i ++ total_text (k i) (g i) (so.counted i));
        counted = faulty-is ∙ so.counted;
      }
