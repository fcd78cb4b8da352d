-- From the calls of a design to those of its states.
use Rattle.std.proofs.Common.{◌≡◌, ℕ, min, ◌↔◌, List, [], ◌∷◌, ◌++◌, length, sym, ◌∙◌, subst}
use Rattle.std.proofs.lemmas.List.{length-take}
use Rattle.functions.specs.Functions.{Fn}
use Rattle.charts.specs.declared.chart.Chart as chart
use Rattle.charts.specs.Walks.{chart_function}
use Rattle.rules.specs.declared.rule.CodeRule as rule
use Rattle.families.specs.declared.family.CellFamily as family
use Rattle.mapping.specs.declared.call.Call.{Call}
use Rattle.mapping.specs.declared.call.Call.TheVariants.{Swap, Split, Close, Pin, Write}
use Rattle.mapping.specs.declared.answer.Answer.{Answer}
use Rattle.mapping.specs.Histories.{Told, told}
use Rattle.mapping.specs.Answers.{Answers}
use Rattle.mapping.specs.Kept as kept
use Rattle.mapping.specs.Kept.{Reaches}
use Rattle.mapping.proofs.Refits.{refit}
use Rattle.design.specs.declared.design.Design.{Design}
use Rattle.design.specs.Designs.{seen, Opened, Step}
use Rattle.design.specs.Runs.{lent, Setting, Does, Goes, none, more}

module _ {C P R F : Type 0} (ch : chart.Ghosts C P) (ru : rule.Ghosts R) (fa : family.Ghosts F) where
  -- a call with what it is lent is a call of the design
  does_step : (s t : Setting ch ru fa) (c : Call) (a : Answer) → Does ch ru fa s c a t → Step ch ru fa s.design (lent (length s.strip) (length s.buffer) c) a t.design
  does_step s t (Swap p) a does = does.0
  does_step s t (Split b j room) a does = subst (λ k. Step ch ru fa s.design (Split b j k) a t.design) (length-take room s.strip) does.0.step
  does_step s t Close a does = does.0
  does_step s t (Pin x) a does = subst (Step ch ru fa s.design (Pin x) a) (sym does.1) does.0
  does_step s t (Write room) a does =
      subst (Step ch ru fa s.design (Write (min room (length s.buffer))) a) (sym does.2) (subst (λ k. Step ch ru fa s.design (Write k) a s.design) (length-take room s.buffer) does.0.step)

  -- what stays of the design that was opened
  pub record Stays (r : R) (f : F) (n : ℕ) (fits : Fn → Type 0) (d : Design C R F P) : Type 0 where
    pub rule : d.rule ≡ r
    pub family : d.family ≡ f
    pub inputs : d.inputs ≡ n
    pub fitting : (g : Fn) → ch.fits d.chart.below g ↔ fits g

  module _ (c : C) (r : R) (f : F) (o : Setting ch ru fa) (opened : Opened ch ru fa c r f o.design) where
    stays : {ts : List Told} {t : Setting ch ru fa} → Goes ch ru fa o ts t → Stays r f (ch.arity c) (ch.fits c) t.design
    stays none = record {
      rule = opened.rule;
      family = opened.family;
      inputs = opened.inputs;
      fitting = λ g. subst (λ b. ch.fits b g ↔ ch.fits c g) (sym opened.below) (λ x. x, λ x. x);
    }
    stays (more {s = s} {t = t} k a before does) =
        let h = stays before in
        let step = does_step s t k a does in
        record {
          rule = step.rule ∙ h.rule;
          family = step.family ∙ h.family;
          inputs = step.inputs ∙ h.inputs;
          fitting = λ g. (λ x. (h.fitting g).0 ((step.fitting g).1 x), λ x. (step.fitting g).0 ((h.fitting g).1 x));
        }

    reaches : {ts : List Told} {t : Setting ch ru fa} → Goes ch ru fa o ts t → Reaches (ru.code r) (fa.pins f) (fa.size f) (ch.fits c) (ch.arity c) (chart_function ch c) ts (seen ch ru fa t.design)
    reaches none = subst (Reaches (ru.code r) (fa.pins f) (fa.size f) (ch.fits c) (ch.arity c) (chart_function ch c) []) (sym opened.state) kept.none
    reaches (more {s = s} {t = t} k a before does) =
        let h = stays before in
        let step = does_step s t k a does in
        let call = lent (length s.strip) (length s.buffer) k in
        let T : R → F → Type 0 = λ x y. Answers (ru.code x) (fa.pins y) (fa.size y) (ch.fits s.design.chart.below) (seen ch ru fa s.design) call a (seen ch ru fa t.design) in
        let by-rule = subst (λ x. T x s.design.family) h.rule step.answers in
        let by-family = subst (T r) h.family by-rule in
        kept.more call a (reaches before) (refit (ru.code r) (fa.pins f) (fa.size f) (ch.fits s.design.chart.below) (ch.fits c) h.fitting (seen ch ru fa s.design) (seen ch ru fa t.design) call a by-family)

  pub goes-stays : (c : C) (r : R) (f : F) (o : Setting ch ru fa) (ts : List Told) (t : Setting ch ru fa) → Opened ch ru fa c r f o.design → Goes ch ru fa o ts t → Stays r f (ch.arity c) (ch.fits c) t.design
  goes-stays c r f o ts t opened goes = stays c r f o opened goes

  pub goes_reaches : (c : C) (r : R) (f : F) (o : Setting ch ru fa) (ts : List Told) (t : Setting ch ru fa) → Opened ch ru fa c r f o.design → Goes ch ru fa o ts t →
      Reaches (ru.code r) (fa.pins f) (fa.size f) (ch.fits c) (ch.arity c) (chart_function ch c) ts (seen ch ru fa t.design)
  goes_reaches c r f o ts t opened goes = reaches c r f o opened goes

  -- one call more
  pub goes-more : (o s t : Setting ch ru fa) (ts : List Told) (c : Call) (a : Answer) (k n : ℕ) → length s.strip ≡ k → length s.buffer ≡ n → Goes ch ru fa o ts s → Does ch ru fa s c a t →
      Goes ch ru fa o (ts ++ (told (lent k n c) a ∷ [])) t
  goes-more o s t ts c a k n e h before does =
      let T : ℕ → ℕ → Type 0 = λ i j. Goes ch ru fa o (ts ++ (told (lent i j c) a ∷ [])) t in
      subst (T k) h (subst (λ i. T i (length s.buffer)) e (more c a before does))
