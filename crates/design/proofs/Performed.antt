-- What a list of calls on a design that was opened keeps, by what was opened and by the calls.
use Rattle.std.proofs.Common.{ℕ, List, []}
use Rattle.charts.specs.declared.chart.Chart as chart
use Rattle.charts.specs.Walks.{chart_function}
use Rattle.rules.specs.declared.rule.CodeRule as rule
use Rattle.families.specs.declared.family.CellFamily as family
use Rattle.mapping.specs.Histories.{Told, events}
use Rattle.mapping.specs.Judged.{Judged}
use Rattle.mapping.specs.Kept.{Reaches}
use Rattle.design.specs.declared.design.Design.{Design}
use Rattle.design.specs.Designs.{seen, Opened}
use Rattle.design.specs.Runs.{setting, Goes, Ran, Promise}
use Rattle.design.proofs.Reached.{goes-stays, goes_reaches}
use Rattle.design.proofs.Promised.{judged, promised}

module _ {C P R F : Type 0} (ch : chart.Ghosts C P) (ru : rule.Ghosts R) (fa : family.Ghosts F) (s : C) (r : R) (f : F) (strip : List P) (out : List ℕ) (ts : List Told) (e : Design C R F P) (strip-after : List P) (out-after : List ℕ) (d : Design C R F P) (opened : Opened ch ru fa s r f d) (goes : Goes ch ru fa (setting ch ru fa d strip out) ts (setting ch ru fa e strip-after out-after)) where
  pub ran : Ran ch ru fa s r f strip out ts (setting ch ru fa e strip-after out-after)
  ran = record { start = d; opened = opened; goes = goes }

  pub reached_run : Reaches (ru.code r) (fa.pins f) (fa.size f) (ch.fits s) (ch.arity s) (chart_function ch s) ts (seen ch ru fa e)
  reached_run = goes_reaches ch ru fa s r f (setting ch ru fa d strip out) ts (setting ch ru fa e strip-after out-after) opened goes

  pub judged_run : Judged (ru.code r) (fa.pins f) (fa.size f) (ch.fits s) (ch.arity s) (chart_function ch s) [] ts
  judged_run = judged ch ru fa s r f ts e reached_run

  pub kept_run : Promise ch ru fa (ch.arity s) (chart_function ch s) (events ts) e
  kept_run = promised ch ru fa s r f ts e (goes-stays ch ru fa s r f (setting ch ru fa d strip out) ts (setting ch ru fa e strip-after out-after) opened goes) reached_run
