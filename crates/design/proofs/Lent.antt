-- The part of a strip or a buffer that a call is lent.
use Rattle.std.proofs.Common.{◌≡◌, ℕ, min, List, ◌++◌, length, take, drop, sym, refl, ap, ◌∙◌, subst, ⊎_elim, arith}
use Rattle.std.proofs.lemmas.List.{append-nil, take_at, drop_at, take_all, drop_all}
use Rattle.std.proofs.lemmas.Bool.{cases_lt}
use Rattle.charts.specs.declared.chart.Chart as chart
use Rattle.std.proofs.lemmas.List.{take_min}
use Rattle.rules.specs.declared.rule.CodeRule as rule
use Rattle.families.specs.declared.family.CellFamily as family
use Rattle.mapping.specs.declared.call.Call.{Call}
use Rattle.mapping.specs.declared.call.Call.TheVariants.{Write}
use Rattle.mapping.specs.declared.answer.Answer.{Answer}
use Rattle.design.specs.declared.design.Design.{Design}
use Rattle.design.specs.Designs.{WriteCall}
use Rattle.design.specs.Runs.{setting, Does}

module _ {X : Type 0} (xs ys zs : List X) (room n : ℕ) (e : n ≡ min room (length xs)) (long : length ys ≡ n) (is : zs ≡ ys ++ drop n xs) where
  -- what is lent
  pub lent-first : take n xs ≡ take room xs
  lent-first = ap (λ k. take k xs) e ∙ take_min room xs

  -- what comes back
  pub lent-last : take room zs ≡ ys
  lent-last =
      ap (take room) is
      ∙ ⊎_elim
      (λ h. ap (λ zs. take room (ys ++ zs)) (drop_all n xs (omega arith)) ∙ ap (take room) (append-nil ys) ∙ take_all room ys (omega arith))
      (λ h. take_at ys (drop n xs) room (omega arith))
      (cases_lt (length xs) room)

  -- and the rest
  pub lent-rest : drop room zs ≡ drop room xs
  lent-rest =
      ap (drop room) is
      ∙ ⊎_elim
      (λ h. ap (λ zs. drop room (ys ++ zs)) (drop_all n xs (omega arith)) ∙ ap (drop room) (append-nil ys) ∙ drop_all room ys (omega arith) ∙ sym (drop_all room xs (omega arith)))
      (λ h. drop_at ys (drop n xs) room (omega arith) ∙ (let k : n ≡ room = omega arith in ap (λ i. drop i xs) k))
      (cases_lt (length xs) room)

module _ {C P R F : Type 0} (ch : chart.Ghosts C P) (ru : rule.Ghosts R) (fa : family.Ghosts F) (d e : Design C R F P) (strip : List P) (out : List ℕ) (c : Call) (a : Answer) (r : Answer) (room n : ℕ) (is : r ≡ a) where
  -- a write with the front of the buffer
  pub write_lent : (ys zs : List ℕ) → c ≡ Write room → n ≡ min room (length out) → length ys ≡ n → zs ≡ ys ++ drop n out → WriteCall ch ru fa d (take n out) ys a →
      Does ch ru fa (setting ch ru fa d strip out) c r (setting ch ru fa d strip zs)
  write_lent ys zs call least long back done =
      let T : Call → Answer → Type 0 = λ k w. Does ch ru fa (setting ch ru fa d strip out) k w (setting ch ru fa d strip zs) in
      let S : List ℕ → List ℕ → Type 0 = λ before after. WriteCall ch ru fa d before after a in
      let first = subst (λ bs. S bs ys) (lent-first out ys zs room n least long back) done in
      let both = subst (S (take room out)) (sym (lent-last out ys zs room n least long back)) first in
      subst (λ k. T k r) (sym call) (subst (T (Write room)) (sym is) (both, lent-rest out ys zs room n least long back, refl, refl))
