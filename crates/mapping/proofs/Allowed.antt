-- What a call that is done has passed, and what follows from an answer.
use Rattle.std.proofs.Common.{◌≡◌, ℕ, ◌+◌, ◌^◌, ◌<◌, ◌≤◌, Bool, true, false, cond, length, sym, refl, ap, ◌∙◌, subst, ⊎_elim, arith}
use Rattle.std.proofs.lemmas.Bool.{cases_lt}
use Rattle.functions.specs.Functions.{Fn}
use Rattle.functions.specs.Classes.{columns, classes}
use Rattle.mapping.specs.declared.call.Call.{Call}
use Rattle.mapping.specs.declared.call.Call.TheVariants.{Swap, Split, Close, Pin, Write}
use Rattle.mapping.specs.declared.answer.Answer.{Answer}
use Rattle.mapping.specs.Calls.{is_done}
use Rattle.mapping.specs.States.{State}
use Rattle.mapping.specs.Answers.{Ranged, checks, good, next, Answers}
use Rattle.mapping.proofs.Checks.{Passed, ordered_cases}

-- the checks that matter to what a call leaves
abbrev pub Allowed : ℕ → State → Call → Type 0
Allowed K s (Swap p) = (s.closed ≡ false) × (p + 1 < length s.live)
Allowed K s (Split b j room) =
    (s.closed ≡ false) × Ranged K (length s.live) b j × (length (classes (columns b s.left)) ≤ 2 ^ j) × (length s.cells + j ≤ 47)
Allowed K s Close = (s.closed ≡ false) × (length s.live ≤ K)
Allowed K s (Pin x) = Unit {0}
Allowed K s (Write room) = Unit {0}

not-true : (b : Bool) → (b ≡ true → ⊥) → b ≡ false
not-true true n = absurd (n refl)
not-true false n = refl

at_most : (a b : ℕ) → (a < b → ⊥) → b ≤ a
at_most a b h = ⊎_elim (λ l. absurd (h l)) (λ l. l) (cases_lt a b)

above : (a b : ℕ) → (a ≤ b → ⊥) → b < a
above a b h = ⊎_elim (λ l. l) (λ l. absurd (h l)) (cases_lt b a)

-- numbers that are not out of range are in range
pub ranged : (K m b j : ℕ) → ((Ranged K m b j → ⊥) → ⊥) → Ranged K m b j
ranged K m b j h = record {
  some = at_most b 1 (λ l. h (λ r. let x = r.some in omega arith));
  pinned = at_most K b (λ l. h (λ r. let x = r.pinned in omega arith));
  bound = at_most m b (λ l. h (λ r. let x = r.bound in omega arith));
  fewer = above b j (λ l. h (λ r. let x = r.fewer in omega arith));
}

module _ (code : ℕ → ℕ → ℕ) (K config : ℕ) (fits : Fn → Type 0) (s : State) where
  good-done : (c : Call) → is_done (good code K config fits s c) ≡ true
  good-done (Swap p) = refl
  good-done (Split b j room) = refl
  good-done Close = refl
  good-done (Pin x) = refl
  good-done (Write room) = refl

  pub passed_allowed : (c : Call) → Passed (checks code K config fits s c) → Allowed K s c
  passed_allowed (Swap p) h = (not-true s.closed h.0, above (length s.live) (p + 1) h.1.0)
  passed_allowed (Split b j room) h = (
    not-true s.closed h.0,
    ranged K (length s.live) b j h.1.0,
    at_most (2 ^ j) (length (classes (columns b s.left))) h.1.1.1.0,
    at_most 47 (length s.cells + j) h.1.1.1.1.0,
  )
  passed_allowed Close h = (not-true s.closed h.0, at_most K (length s.live) h.1.0)
  passed_allowed (Pin x) h = tt
  passed_allowed (Write room) h = tt

  -- what holds of the state as it was and, where the call is allowed, of the next one, holds of what the call leaves
  pub answers_keep : (P : Bool → State → Type 0) (t : State) (c : Call) (a : Answer) → Answers code K config fits s c a t →
      P false s → (Allowed K s c → P true (next code K config fits s c)) → P (is_done a) t
  answers_keep P t c a x before after =
      let u = next code K config fits s c in
      let put : (d : Bool) → is_done a ≡ d → P d (cond d u s) → P (is_done a) t = λ d e p. subst (P (is_done a)) (sym x.leaves) (subst (λ b. P b (cond b u s)) (sym e) p) in
      ⊎_elim (λ r. put false (ap is_done r.1) before) (λ r. put true (ap is_done r.1 ∙ good-done c) (after (passed_allowed c r.0))) (ordered_cases (checks code K config fits s c) (good code K config fits s c) a x.says)
