-- What a state holds of the function that was opened and of the reference function.
use Rattle.std.proofs.Common.{◌≡◌, ℕ, ◌+◌, ◌^◌, ◌≤◌, Bool, true, false, cond, not, ◌||◌, List, [], ◌∷◌, ◌++◌, length, take, sym, refl, ap, ◌∙◌, subst, ⊎_elim, add-zero, arith}
use mathlib.Core.Bool.{or-true, or-false, or_assoc}
use Rattle.std.proofs.lemmas.List.{length_push, map_push}
use Rattle.std.proofs.lemmas.List.FromFn.{length-range_with_len}
use Rattle.std.proofs.lemmas.Bool.{cases_lt}
use Rattle.functions.specs.Functions.{Fn, Arity, value, negated, exchanged}
use Rattle.functions.specs.Classes.{columns, classes}
use Rattle.functions.proofs.Words.{length_swapped}
use Rattle.functions.proofs.Values.{arity_exchanged}
use Rattle.functions.proofs.Negation.{exchanged_negated}
use Rattle.functions.proofs.Decomposition.{decomposition_theorem}
use Rattle.rules.specs.Codes.{Laws}
use Rattle.mapping.specs.declared.call.Call.{Call}
use Rattle.mapping.specs.declared.call.Call.TheVariants.{Swap, Split, Close, Pin, Write}
use Rattle.mapping.specs.declared.answer.Answer.{Answer}
use Rattle.mapping.specs.Calls.{is_done}
use Rattle.mapping.specs.States.{State, pin, opened, coded, closing_cell}
use Rattle.mapping.specs.Answers.{next, Answers}
use Rattle.mapping.specs.Histories.{Told, told, Event, event, events, referred, reference, closes, is_closed, makes, cells_made}
use Rattle.mapping.specs.Kept.{Reaches, none, more, Keeps}
use Rattle.mapping.proofs.Splitting.{count-negated, coded-negated, arity-coded, count-split, width-split}
use Rattle.mapping.proofs.Steps.{opened-pin, open_pin, swapped-value, split-value, closed-last}
use Rattle.mapping.proofs.Allowed.{Allowed, answers_keep}
use Rattle.mapping.proofs.Building.{Built, built, live-within}

-- ---- one event more

pub reference-more : (code : ℕ → ℕ → ℕ) (f : Fn) (es : List Event) (c : Call) (b : Bool) → reference code f (es ++ (event c b ∷ [])) ≡ referred code (reference code f es) c b
reference-more code f [] c b = refl
reference-more code f (e ∷ es) c b = reference-more code (referred code f e.call e.done) es c b

closed-more : (es : List Event) (c : Call) (b : Bool) → is_closed (es ++ (event c b ∷ [])) ≡ (is_closed es || cond b (closes c) false)
closed-more [] c b = or-false (cond b (closes c) false)
closed-more (e ∷ es) c b =
    let d = cond e.done (closes e.call) false in
    ap (λ x. d || x) (closed-more es c b) ∙ sym (or_assoc d (is_closed es) (cond b (closes c) false))

made_more : (es : List Event) (c : Call) (b : Bool) → cells_made (es ++ (event c b ∷ [])) ≡ cells_made es + cond b (makes c) 0
made_more [] c b = omega arith
made_more (e ∷ es) c b = omega (arith, made_more es c b)

pub events_push : (ts : List Told) (c : Call) (a : Answer) → events (ts ++ (told c a ∷ [])) ≡ events ts ++ (event c (is_done a) ∷ [])
events_push ts c a = map_push (λ t. event t.call (is_done t.answer)) ts (told c a)

-- ---- states

-- of a design that was opened with f, a function of n arguments: g is the reference function, and so many cells were made
pub record Stands (n : ℕ) (f g : Fn) (shut : Bool) (made : ℕ) (s : State) : Type 0 where
  pub left : s.left ≡ negated g
  pub arity : Arity (length s.live) g
  pub pins : (vs : List Bool) → length vs ≡ 16 → pin s vs ≡ value f (take n vs)
  pub closed : s.closed ≡ shut
  pub cells : length s.cells ≡ made

-- after the events es
abbrev pub Holds : (ℕ → ℕ → ℕ) → ℕ → Fn → List Event → State → Type 0
Holds code n f es s = Stands n f (reference code f es) (is_closed es) (cells_made es) s

-- after one event more
abbrev After : (ℕ → ℕ → ℕ) → ℕ → Fn → List Event → Call → Bool → State → Type 0
After code n f es c b t = Stands n f (referred code (reference code f es) c b) (is_closed es || cond b (closes c) false) (cells_made es + cond b (makes c) 0) t

holds_more : (code : ℕ → ℕ → ℕ) (n : ℕ) (f : Fn) (es : List Event) (c : Call) (b : Bool) (t : State) → After code n f es c b t → Holds code n f (es ++ (event c b ∷ [])) t
holds_more code n f es c b t h = rw (reference-more code f es c b, closed-more es c b, made_more es c b) h

unchanged : {n made : ℕ} {f g : Fn} {shut : Bool} {s : State} → Stands n f g shut made s → Stands n f g (shut || false) (made + 0) s
unchanged {n} {made} {f} {g} {shut} {s} h = rw (or-false shut, add-zero made) h

module _ {R : Type 0} (code : R → ℕ → ℕ → ℕ) (laws : Laws code) (r : R) (K config : ℕ) (fits : Fn → Type 0) (n : ℕ) (f : Fn) (few_pins : K ≤ 5) (few : n ≤ 16) where
  module _ (es : List Event) (s : State) (h : Holds (code r) n f es s) (x : Built n K s) where
    abbrev ref : Fn
    ref = reference (code r) f es

    holds_next : (c : Call) → Allowed K s c → After (code r) n f es c true (next (code r) K config fits s c)
    holds_next (Swap p) d = record {
      left = ap (exchanged p) h.left ∙ exchanged_negated p ref;
      arity = subst (λ k. Arity k (exchanged p ref)) (sym (length_swapped p s.live)) (arity_exchanged p (length s.live) ref d.1 h.arity);
      pins = λ vs l. ap not (swapped-value s vs p d.1) ∙ sym (open_pin s vs d.0) ∙ h.pins vs l;
      closed = sym d.0 ∙ h.closed ∙ sym (or-false (is_closed es));
      cells = let k = h.cells in omega arith;
    }
    holds_next (Split b j room) d =
        let u = d.1 in
        let small : j ≤ 4 = let y = u.pinned in let z = u.fewer in omega arith in
        record {
          left = ap (coded (code r) b j) h.left ∙ coded-negated (code r) b j ref;
          arity = subst (λ k. Arity k (coded (code r) b j ref)) (sym (width-split (code r) b j s)) (arity-coded (code r) b j ref (length s.live) u.bound h.arity);
          pins = λ vs l. ap not (split-value s vs l (live-within n K few s x) b j u.bound code laws r small d.2) ∙ sym (open_pin s vs d.0) ∙ h.pins vs l;
          closed = sym d.0 ∙ h.closed ∙ sym (or-false (is_closed es));
          cells = count-split (code r) b j s ∙ ap (λ k. k + j) h.cells;
        }
    holds_next Close d = record {
      left = h.left;
      arity = h.arity;
      pins = λ vs l. ap not (closed-last s vs) ∙ sym (open_pin s vs d.0) ∙ h.pins vs l;
      closed = sym (or-true (is_closed es));
      cells = length_push s.cells (closing_cell s) ∙ ap (λ k. k + 1) h.cells;
    }
    holds_next (Pin v) d = unchanged h
    holds_next (Write room) d = unchanged h

    -- a call leaves a state that holds the same of the events with it
    pub holds_after : (t : State) (c : Call) (a : Answer) → Answers (code r) K config fits s c a t → Holds (code r) n f (es ++ (event c (is_done a) ∷ [])) t
    holds_after t c a step = holds_more (code r) n f es c (is_done a) t (answers_keep (code r) K config fits s (After (code r) n f es c) t c a step (unchanged h) (holds_next c))

  pub holds_opened : Arity n f → Holds (code r) n f [] (opened n f)
  holds_opened a = record {
    left = refl;
    arity = subst (λ k. Arity k f) (sym (length-range_with_len 0 n)) a;
    pins = λ vs l. opened-pin n f vs (omega arith);
    closed = refl;
    cells = refl;
  }

  pub holds : {ts : List Told} {s : State} → Arity n f → Reaches (code r) K config fits n f ts s → Holds (code r) n f (events ts) s
  holds arity none = holds_opened arity
  holds arity (more {ts = ts} {s = s} {t = t} c a before step) =
      subst (λ es. Holds (code r) n f es t) (sym (events_push ts c a)) (holds_after (events ts) s (holds arity before) (built n K (code r) config fits f before) t c a step)

pub keeps : (code : ℕ → ℕ → ℕ) (n : ℕ) (f : Fn) (es : List Event) (s : State) → Holds code n f es s → Keeps code n f es s
keeps code n f es s h =
    let g = reference code f es in
    record {
      pins = h.pins;
      left = h.left;
      arity = h.arity;
      classed = λ b j fit.
          let count : length (classes (columns b s.left)) ≡ length (classes (columns b (reference code f es))) = ap (λ k. length (classes (columns b k))) h.left ∙ count-negated b g in
          let iff = decomposition_theorem (length s.live) b j g h.arity fit in
          (λ many d. let k = iff.0 d in omega arith, λ nay. ⊎_elim (λ l. l) (λ l. absurd (nay (iff.1 (omega arith)))) (cases_lt (2 ^ j) (length (classes (columns b s.left)))));
    }
