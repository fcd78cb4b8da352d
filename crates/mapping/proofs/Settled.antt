-- Checks, and so the states and the histories of designs, settle what a call answers.
use Rattle.std.proofs.Common.{◌≡◌, ℕ, cond, List, [], ◌∷◌, sym, ap, ◌∙◌, inl, inr}
use Rattle.functions.specs.Functions.{Fn}
use Rattle.mapping.specs.declared.call.Call.{Call}
use Rattle.mapping.specs.declared.answer.Answer.{Answer}
use Rattle.mapping.specs.Calls.{is_done}
use Rattle.mapping.specs.States.{State}
use Rattle.mapping.specs.Answers.{Check, Ordered, checks, good, next, Answers}
use Rattle.mapping.specs.Histories.{Event, reference}
use Rattle.mapping.specs.Judged.{demands, due, Judges}

pub ordered_one : (cs : List Check) (g a b : Answer) → Ordered cs g a → Ordered cs g b → a ≡ b
ordered_one [] g a b o p = o ∙ sym p
ordered_one (c ∷ cs) g a b (inl x) (inl y) = x.1 ∙ sym y.1
ordered_one (c ∷ cs) g a b (inl x) (inr y) = absurd (y.0 x.0)
ordered_one (c ∷ cs) g a b (inr x) (inl y) = absurd (x.0 y.0)
ordered_one (c ∷ cs) g a b (inr x) (inr y) = ordered_one cs g a b x.1 y.1

module _ (code : ℕ → ℕ → ℕ) (K config : ℕ) (fits : Fn → Type 0) where
  pub settled : (n : ℕ) (f : Fn) (es : List Event) (c : Call) (a b : Answer) → Judges code K config fits n f es c a → Judges code K config fits n f es c b → a ≡ b
  settled n f es c a b = ordered_one (demands code K config fits n f es (reference code f es) c) (due code K config fits n f es (reference code f es) c) a b

  pub answers_one : (s t u : State) (c : Call) (a b : Answer) → Answers code K config fits s c a t → Answers code K config fits s c b u → (a ≡ b) × (t ≡ u)
  answers_one s t u c a b x y =
      let same = ordered_one (checks code K config fits s c) (good code K config fits s c) a b x.says y.says in
      (same, x.leaves ∙ ap (λ d. cond (is_done d) (next code K config fits s c) s) same ∙ sym y.leaves)
