-- Checks in their order: what an answer tells of them, and lists of checks that say the same.
use Rattle.std.proofs.Common.{◌≡◌, ◌⊎◌, ◌↔◌, List, [], ◌∷◌, refl, ap, ◌∙◌, inl, inr, ⊎_elim}
use Rattle.mapping.specs.declared.refusal.Refusal.{Refusal}
use Rattle.mapping.specs.declared.answer.Answer.{Answer}
use Rattle.mapping.specs.declared.answer.Answer.TheVariants.{Refused}
use Rattle.mapping.specs.Answers.{Check, Ordered}

-- none of the checks stands against the call
abbrev pub Passed : List Check → Type 0
Passed [] = Unit {0}
Passed (c ∷ cs) = (c.against → ⊥) × Passed cs

-- a call is refused, or passes all checks
pub ordered_cases : (cs : List Check) (g a : Answer) → Ordered cs g a → ((r : Refusal) × (a ≡ Refused r)) ⊎ (Passed cs × (a ≡ g))
ordered_cases [] g a o = inr (tt, o)
ordered_cases (c ∷ cs) g a (inl x) = inl (c.says, x.1)
ordered_cases (c ∷ cs) g a (inr x) = ⊎_elim (λ r. inl r) (λ p. inr ((x.0, p.0), p.1)) (ordered_cases cs g a x.1)

-- checks that say the same, each where those before it do not stand against the call
abbrev pub Alike : List Check → List Check → Type 0
Alike [] [] = Unit {0}
Alike [] (d ∷ ds) = ⊥
Alike (c ∷ cs) [] = ⊥
Alike (c ∷ cs) (d ∷ ds) = (c.against ↔ d.against) × (c.says ≡ d.says) × ((c.against → ⊥) → Alike cs ds)

pub alike_self : (cs : List Check) → Alike cs cs
alike_self [] = tt
alike_self (c ∷ cs) = ((λ x. x, λ x. x), refl, λ _. alike_self cs)

pub ordered_alike : (cs ds : List Check) (g h a : Answer) → Alike cs ds → g ≡ h → Ordered cs g a → Ordered ds h a
ordered_alike [] [] g h a k e o = o ∙ e
ordered_alike [] (d ∷ ds) g h a k e o = absurd k
ordered_alike (c ∷ cs) [] g h a k e o = absurd k
ordered_alike (c ∷ cs) (d ∷ ds) g h a k e (inl x) = inl (k.0.0 x.0, x.1 ∙ ap Refused k.1)
ordered_alike (c ∷ cs) (d ∷ ds) g h a k e (inr x) = inr (λ y. x.0 (k.0.1 y), ordered_alike cs ds g h a (k.2 x.0) e x.1)
