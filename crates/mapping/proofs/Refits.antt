-- Charts that the same functions fit: a call answers and leaves the same.
use Rattle.std.proofs.Common.{◌≡◌, ℕ, cond, ◌↔◌, refl, ap, ◌∙◌}
use Rattle.functions.specs.Functions.{Fn, negated, exchanged}
use Rattle.mapping.specs.declared.call.Call.{Call}
use Rattle.mapping.specs.declared.call.Call.TheVariants.{Swap, Split, Close, Pin, Write}
use Rattle.mapping.specs.declared.answer.Answer.{Answer}
use Rattle.mapping.specs.Calls.{is_done}
use Rattle.mapping.specs.States.{State, coded}
use Rattle.mapping.specs.Answers.{checks, good, next, Answers}
use Rattle.mapping.proofs.Checks.{Alike, alike_self, ordered_alike}

module _ (code : ℕ → ℕ → ℕ) (K config : ℕ) (F G : Fn → Type 0) (same : (g : Fn) → F g ↔ G g) where
  not_fits : (g : Fn) → (F g → ⊥) ↔ (G g → ⊥)
  not_fits g = (λ o x. o ((same g).1 x), λ o x. o ((same g).0 x))

  refit_checks : (s : State) (c : Call) → Alike (checks code K config F s c) (checks code K config G s c)
  refit_checks s (Swap p) =
      ((λ x. x, λ x. x), refl, λ _. ((λ x. x, λ x. x), refl, λ _. (not_fits (negated (exchanged p s.left)), refl, λ _. tt)))
  refit_checks s (Split b j room) = (
    (λ x. x, λ x. x),
    refl,
    λ _. (
      (λ x. x, λ x. x),
      refl,
      λ _. (
        (λ x. x, λ x. x),
        refl,
        λ _. (
          (λ x. x, λ x. x),
          refl,
          λ _.
              ((λ x. x, λ x. x), refl, λ _. (not_fits (negated (coded code b j s.left)), refl, λ _. tt)),
        ),
      ),
    ),
  )
  refit_checks s Close = alike_self (checks code K config F s Close)
  refit_checks s (Pin x) = tt
  refit_checks s (Write room) = alike_self (checks code K config F s (Write room))

  refit_good : (s : State) (c : Call) → good code K config F s c ≡ good code K config G s c
  refit_good s (Swap p) = refl
  refit_good s (Split b j room) = refl
  refit_good s Close = refl
  refit_good s (Pin x) = refl
  refit_good s (Write room) = refl

  refit_next : (s : State) (c : Call) → next code K config F s c ≡ next code K config G s c
  refit_next s (Swap p) = refl
  refit_next s (Split b j room) = refl
  refit_next s Close = refl
  refit_next s (Pin x) = refl
  refit_next s (Write room) = refl

  pub refit : (s t : State) (c : Call) (a : Answer) → Answers code K config F s c a t → Answers code K config G s c a t
  refit s t c a x = record {
    says = ordered_alike (checks code K config F s c) (checks code K config G s c) (good code K config F s c) (good code K config G s c) a (refit_checks s c) (refit_good s c) x.says;
    leaves = x.leaves ∙ ap (λ u. cond (is_done a) u s) (refit_next s c);
  }
