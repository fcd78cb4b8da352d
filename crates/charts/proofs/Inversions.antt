-- What a change of the chart below does to the inverting chart.
use Rattle.std.proofs.Common.{◌≡◌, ℕ, Bool, List, map, length, get_or, Ok, Err, Result, sym, ap, ◌∙◌, subst, inl, inr}
use mathlib.Core.List.{map-map}
use Rattle.std.proofs.lemmas.List.{length-map}
use Rattle.functions.specs.Functions.{Fn, negated, recoded}
use Rattle.functions.specs.Classes.{same_fn}
use Rattle.functions.proofs.Negation.{same-negated, negated_twice, recoded_negated}
use Rattle.charts.specs.Changes.{Change, Recodable}
use Rattle.charts.specs.declared.refusal.ChartRefusal.{ChartRefusal}
use Rattle.charts.specs.declared.inverting.Inverting.{Inverting}

pub same-inverted : (r : Bool) (f g : Fn) → r ≡ same_fn f g → r ≡ same_fn (negated f) (negated g)
same-inverted r f g e = e ∙ sym (same-negated f g)

negated_back : (f g : Fn) → g ≡ negated f → negated g ≡ f
negated_back f g is = ap negated is ∙ negated_twice f

-- g is the negation of f wherever the call is in range
module _ (P : Type 0) {C U : Type 0} (arity : C → ℕ) (means : C → Fn) (fits : C → Fn → Type 0) (InRange : Type 0) (n : ℕ) (f g : Fn) (is : InRange → g ≡ negated f) (before after : C) where
  pub change_inverted : (r : Result U ChartRefusal) → Change arity means fits InRange n f before after r →
      Change {C = Inverting C P} (λ s. arity s.below) (λ s. negated (means s.below)) (λ s h. fits s.below (negated h)) InRange n g (record { below = before }) (record { below = after }) r
  change_inverted (Ok u) d = (
    d.0,
    record {
      fitted = subst (fits before) (sym (negated_back f g (is d.0))) d.1.fitted;
      meaning = ap negated d.1.meaning ∙ sym (is d.0);
      counted = d.1.counted;
      fitting = λ h. d.1.fitting (negated h);
    },
  )
  change_inverted (Err e) d = (
    ap (λ x. record { below = x }) d.0,
    elim d.1 [
      | inl w ↦ inl w
      | inr w ↦ inr (w.0, w.1, λ fit. w.2 (subst (fits before) (negated_back f g (is w.1)) fit))
    ],
  )

pub recode_inverted : {P : Type 0} (column : P → Fn) (m b j : ℕ) (places : List P) (class_of : List ℕ) → Recodable m b j (length places) class_of →
    recoded j (map (λ p. negated (column p)) places) (λ q. get_or class_of q 0) ≡ negated (recoded j (map column places) (λ q. get_or class_of q 0))
recode_inverted column m b j places class_of ok =
    let class : ℕ → ℕ = λ q. get_or class_of q 0 in
    ap (λ cs. recoded j cs class) (sym (map-map negated column places))
    ∙ recoded_negated j (map column places) class (λ q l. rw length-map (ok.placed q l))
