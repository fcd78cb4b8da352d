-- Each answer is the one that the history of a design demands.
use Rattle.std.proofs.Common.{◌≡◌, ℕ, zero, suc, ◌+◌, ◌^◌, ◌<◌, ◌≤◌, Bool, true, false, ◌↔◌, List, [], ◌∷◌, ◌++◌, length, sym, refl, ap, ◌∙◌, subst, arith}
use Rattle.std.proofs.lemmas.List.{append-nil, append_assoc}
use Rattle.functions.specs.Functions.{Fn, bit, fork, Arity, negated, exchanged}
use Rattle.functions.specs.Classes.{columns, classes}
use Rattle.functions.specs.Decompositions.{Decomposes}
use Rattle.intake.specs.Networks.{input_bits}
use Rattle.mapping.specs.declared.call.Call.{Call}
use Rattle.mapping.specs.declared.call.Call.TheVariants.{Swap, Split, Close, Pin, Write}
use Rattle.mapping.specs.declared.refusal.Refusal.TheVariants.{TooManyClasses, SplitDoesNotFit, TooManyCells}
use Rattle.mapping.specs.declared.answer.Answer.{Answer}
use Rattle.mapping.specs.declared.answer.Answer.TheVariants.{Divided, Shows, Wrote}
use Rattle.mapping.specs.States.{State, coded}
use Rattle.mapping.specs.Answers.{Ordered, Ranged, page_bytes, checks, good}
use Rattle.mapping.specs.Histories.{Told, told, Event, events, reference, is_closed, cells_made}
use Rattle.mapping.specs.Judged.{arity_of, demands, due, Judges, Judged}
use Rattle.mapping.proofs.Checks.{Alike, ordered_alike}
use Rattle.mapping.proofs.Splitting.{count-negated, exchanged_back, coded_back}
use Rattle.mapping.proofs.Allowed.{ranged}
use Rattle.mapping.proofs.Holding.{Holds, keeps}

pub arity_is : (m : ℕ) (f : Fn) → Arity m f → arity_of f ≡ m
arity_is zero (bit b) a = refl
arity_is zero (fork z o) a = absurd a
arity_is (suc m) (bit b) a = absurd a
arity_is (suc m) (fork z o) a = ap suc (arity_is m z a.0)

module _ (code : ℕ → ℕ → ℕ) (K config : ℕ) (fits : Fn → Type 0) (n : ℕ) (f : Fn) where
  -- ---- the checks of the state and those of the history

  module _ (es : List Event) (s : State) (h : Holds code n f es s) where
    abbrev ref : Fn
    ref = reference code f es

    width : length s.live ≡ arity_of ref
    width = sym (arity_is (length s.live) ref h.arity)

    count : (b : ℕ) → length (classes (columns b s.left)) ≡ length (classes (columns b ref))
    count b = ap (λ g. length (classes (columns b g))) h.left ∙ count-negated b ref

    closed_alike : (b : Bool) → (s.closed ≡ b) ↔ (is_closed es ≡ b)
    closed_alike b = (λ e. sym h.closed ∙ e, λ e. h.closed ∙ e)

    fits_alike : (g k : Fn) → g ≡ k → (fits g → ⊥) ↔ (fits k → ⊥)
    fits_alike g k e = (λ o x. o (subst fits (sym e) x), λ o x. o (subst fits e x))

    swap_left : (p : ℕ) → negated (exchanged p s.left) ≡ exchanged p ref
    swap_left p = ap (λ g. negated (exchanged p g)) h.left ∙ exchanged_back p ref

    split-left : (b j : ℕ) → negated (coded code b j s.left) ≡ coded code b j ref
    split-left b j = ap (λ g. negated (coded code b j g)) h.left ∙ coded_back code b j ref

    range_alike : (b j : ℕ) → (Ranged K (length s.live) b j → ⊥) ↔ (Ranged K (arity_of ref) b j → ⊥)
    range_alike b j = (λ o x. o (subst (λ m. Ranged K m b j) (sym width) x), λ o x. o (subst (λ m. Ranged K m b j) width x))

    classes_alike : (b j : ℕ) → b ≤ length s.live → (2 ^ j < length (classes (columns b s.left))) ↔ (Decomposes (arity_of ref) b j ref → ⊥)
    classes_alike b j fit =
        subst (λ m. (2 ^ j < length (classes (columns b s.left))) ↔ (Decomposes m b j ref → ⊥)) width ((keeps code n f es s h).classed b j fit)

    alike : (c : Call) → Alike (checks code K config fits s c) (demands code K config fits n f es ref c)
    alike (Swap p) = (
      closed_alike true,
      refl,
      λ _. (
        (λ l. omega (arith, width), λ l. omega (arith, width)),
        refl,
        λ _.
            (fits_alike (negated (exchanged p s.left)) (exchanged p ref) (swap_left p), refl, λ _. tt),
      ),
    )
    alike (Split b j room) = (
      closed_alike true,
      refl,
      λ _. (
        range_alike b j,
        refl,
        λ ok. (
          (λ l. l, λ l. l),
          refl,
          λ _. (
            classes_alike b j (ranged K (length s.live) b j ok).bound,
            ap TooManyClasses (count b),
            λ _. (
              (λ l. let k = h.cells in omega arith, λ l. let k = h.cells in omega arith),
              ap TooManyCells (count b),
              λ _.
                  (fits_alike (negated (coded code b j s.left)) (coded code b j ref) (split-left b j), ap SplitDoesNotFit (count b), λ _. tt),
            ),
          ),
        ),
      ),
    )
    alike Close = (closed_alike true, refl, λ _. ((λ l. omega (arith, width), λ l. omega (arith, width)), refl, λ _. tt))
    alike (Pin x) = tt
    alike (Write room) =
        let e : page_bytes K config (length s.cells) ≡ page_bytes K config (cells_made es) = ap (page_bytes K config) h.cells in
        (closed_alike false, refl, λ _. ((λ l. subst (λ k. room < k) e l, λ l. subst (λ k. room < k) (sym e) l), refl, λ _. tt))

    good-due : (c : Call) → good code K config fits s c ≡ due code K config fits n f es ref c
    good-due (Swap p) = refl
    good-due (Split b j room) = ap (λ k. Divided k (length s.cells + j)) (count b) ∙ ap (λ k. Divided (length (classes (columns b ref))) (k + j)) h.cells
    good-due Close = refl
    good-due (Pin x) = ap Shows (h.pins (input_bits x) refl)
    good-due (Write room) = ap (λ k. Wrote (page_bytes K config k)) h.cells

    -- an answer that the state's checks give is the one that the history demands
    pub judges : (c : Call) (a : Answer) → Ordered (checks code K config fits s c) (good code K config fits s c) a → Judges code K config fits n f es c a
    judges c a = ordered_alike (checks code K config fits s c) (demands code K config fits n f es ref c) (good code K config fits s c) (due code K config fits n f es ref c) a (alike c) (good-due c)

  -- ---- one answer more

  pub judged-more : (ts us : List Told) (c : Call) (a : Answer) → Judged code K config fits n f ts us → Judges code K config fits n f (events (ts ++ us)) c a →
      Judged code K config fits n f ts (us ++ (told c a ∷ []))
  judged-more ts [] c a x y = (subst (λ vs. Judges code K config fits n f (events vs) c a) (append-nil ts) y, tt)
  judged-more ts (u ∷ us) c a x y =
      (x.0, judged-more (ts ++ (u ∷ [])) us c a x.1 (subst (λ vs. Judges code K config fits n f (events vs) c a) (sym (append_assoc ts (u ∷ []) us)) y))
