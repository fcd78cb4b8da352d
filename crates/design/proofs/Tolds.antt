-- Calls with their answers, one by one.
use Rattle.std.proofs.Common.{◌≡◌, ℕ, zero, suc, ◌+◌, ◌<◌, min, List, [], ◌∷◌, ◌++◌, length, get_or, take, drop, set, sym, refl, ap, ◌∙◌, ⊎_elim, arith}
use Rattle.std.proofs.lemmas.List.{length-take-le, take_more, take_more_set, drop_all, drop-drop, drop-set-lt}
use Rattle.std.proofs.lemmas.Bool.{cases_lt}
use Rattle.mapping.specs.declared.call.Call.{Call}
use Rattle.mapping.specs.declared.answer.Answer.{Answer}
use Rattle.mapping.specs.Histories.{told}
use Rattle.design.specs.Runs.{lent, tolds}

-- one more of each
tolds_push : (k n : ℕ) (cs : List Call) (rs : List Answer) (c : Call) (r : Answer) → length cs ≡ length rs → tolds k n (cs ++ (c ∷ [])) (rs ++ (r ∷ [])) ≡ tolds k n cs rs ++ (told (lent k n c) r ∷ [])
tolds_push k n [] [] c r e = refl
tolds_push k n [] (s ∷ rs) c r e = absurd (omega arith)
tolds_push k n (d ∷ cs) [] c r e = absurd (omega arith)
tolds_push k n (d ∷ cs) (s ∷ rs) c r e = ap (λ ts. told (lent k n d) s ∷ ts) (tolds_push k n cs rs c r (omega arith))

-- as far as both go
tolds-min : (k n m : ℕ) (cs : List Call) (rs : List Answer) → m ≡ min (length cs) (length rs) → tolds k n (take m cs) (take m rs) ≡ tolds k n cs rs
tolds-min k n m [] rs e = let z : m ≡ 0 = omega arith in ap (λ i. tolds k n (take i []) (take i rs)) z
tolds-min k n m (c ∷ cs) [] e = let z : m ≡ 0 = omega arith in ap (λ i. tolds k n (take i (c ∷ cs)) (take i [])) z
tolds-min k n zero (c ∷ cs) (r ∷ rs) e = absurd (omega arith)
tolds-min k n (suc m) (c ∷ cs) (r ∷ rs) e = ap (λ ts. told (lent k n c) r ∷ ts) (tolds-min k n m cs rs (omega arith))

module _ (k n : ℕ) (cs : List Call) where
  pub tolds-more : (rs : List Answer) (i : ℕ) (d : Call) (r : Answer) → i < length cs → i < length rs → tolds k n (take (i + 1) cs) (take (i + 1) (set rs i r)) ≡ tolds k n (take i cs) (take i rs) ++ (told (lent k n (get_or cs i d)) r ∷ [])
  tolds-more rs i d r h l =
      ap (λ ds. tolds k n ds (take (i + 1) (set rs i r))) (take_more cs i d h)
      ∙ ap (tolds k n (take i cs ++ (get_or cs i d ∷ []))) (take_more_set rs i r l)
      ∙ tolds_push k n (take i cs) (take i rs) (get_or cs i d) r (omega (arith, length-take-le i cs (omega arith), length-take-le i rs (omega arith)))

  pub tolds_all : (rs : List Answer) (i : ℕ) → i ≡ min (length cs) (length rs) → tolds k n (take i cs) (take i rs) ≡ tolds k n cs rs
  tolds_all rs i e = tolds-min k n i cs rs e

  -- the answers past the calls
  pub rest_all : (before after : List Answer) (i : ℕ) → length after ≡ length before → i ≡ min (length cs) (length after) → drop i after ≡ drop i before → drop (length cs) after ≡ drop (length cs) before
  rest_all before after i l e same = ⊎_elim
      (λ h. drop_all (length cs) after (omega arith) ∙ sym (drop_all (length cs) before (omega arith)))
      (λ h. let z : i ≡ length cs = omega arith in sym (ap (λ j. drop j after) z) ∙ same ∙ ap (λ j. drop j before) z)
      (cases_lt (length after) (length cs))

  -- and one answer on
  pub rest_more : (before after : List Answer) (i : ℕ) (r : Answer) → drop i after ≡ drop i before → drop (i + 1) (set after i r) ≡ drop (i + 1) before
  rest_more before after i r same = drop-set-lt (i + 1) after i r (omega arith) ∙ sym (drop-drop 1 i after) ∙ ap (drop 1) same ∙ drop-drop 1 i before
