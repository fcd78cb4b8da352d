use Rattle.std.proofs.Common.{◌≡◌, min, List, [], ◌∷◌, ◌++◌, length, take, sym, refl, ap, ◌∙◌, subst, arith}
use Rattle.std.proofs.lemmas.List.{set-get_or}
use Rattle.mapping.specs.Histories.{Told, told}
use Rattle.design.specs.Runs.{lent, tolds, setting, Goes, none}
use Rattle.design.proofs.Tolds.{tolds-more, tolds_all, rest_all, rest_more}
use Rattle.design.proofs.Reached.{goes-more}
use Rattle.design.proofs.running.run.Goals as goal

pub loop-i-init : goal.loop-i-init
loop-i-init g c = (none, refl, omega arith)

pub loop-i-preserved : goal.loop-i-preserved
loop-i-preserved g c =
    let ch = g.C.Chart in
    let ru = g.R.CodeRule in
    let fa = g.F.CellFamily in
    let i = c.loop-i.i in
    let cs = c.args.calls.now in
    let k = length c.args.strip.now in
    let n = length c.args.out.now in
    let inv = c.loop-i.invariant in
    let call = c.in-Some.call.now in
    let there = (c.in-Some.ensures {u = tt}).lookup.3 in
    let told_are = tolds-more k n cs c.loop-i.answers i call c.call.result there.0 (omega arith) ∙ ap (λ x. tolds k n (take i cs) (take i c.loop-i.answers) ++ (told (lent k n x) c.call.result ∷ [])) (sym (there.1 call)) in
    let T : List Told → Type 0 = λ ts. Goes g.C.Chart g.R.CodeRule g.F.CellFamily (setting g.C.Chart g.R.CodeRule g.F.CellFamily c.args.design.now c.args.strip.now c.args.out.now) ts (setting g.C.Chart g.R.CodeRule g.F.CellFamily c.call.new.self c.call.new.strip c.call.new.out) in (
      subst T (sym told_are)
          (goes-more ch ru fa (setting ch ru fa c.args.design.now c.args.strip.now c.args.out.now) (setting ch ru fa c.loop-i.design c.loop-i.strip c.loop-i.out) (setting ch ru fa c.call.new.self c.call.new.strip c.call.new.out)
          (tolds k n (take i cs) (take i c.loop-i.answers)) call c.call.result k n c.loop-i.auto.strip c.loop-i.auto.out inv.0 c.call.ensures),
      rest_more k n cs c.args.answers.now c.loop-i.answers i c.call.result inv.1,
      omega (arith, there.0),
    )

pub returns-in_default : goal.returns-in_default
returns-in_default g c =
    let i = c.loop-i.i in
    let cs = c.args.calls.now in
    let k = length c.args.strip.now in
    let n = length c.args.out.now in
    let inv = c.loop-i.invariant in
    let all : c.loop-i.i ≡ min (length c.args.calls.now) (length c.loop-i.answers) = omega (arith, inv.2, (c.in_default.ensures {u = tt}).lookup.3) in
    let T : List Told → Type 0 = λ ts. Goes g.C.Chart g.R.CodeRule g.F.CellFamily (setting g.C.Chart g.R.CodeRule g.F.CellFamily c.args.design.now c.args.strip.now c.args.out.now) ts (setting g.C.Chart g.R.CodeRule g.F.CellFamily c.loop-i.design c.loop-i.strip c.loop-i.out) in
    rw (set-get_or c.loop-i.answers i _) (record { goes = subst T (tolds_all k n cs c.loop-i.answers i all) inv.0; rest = rest_all k n cs c.args.answers.now c.loop-i.answers i c.loop-i.auto.answers all inv.1 })

pub returns-after-loop-i : goal.returns-after-loop-i
returns-after-loop-i g c =
    let i = c.loop-i.i in
    let cs = c.args.calls.now in
    let k = length c.args.strip.now in
    let n = length c.args.out.now in
    let inv = c.loop-i.invariant in
    let all : c.loop-i.i ≡ min (length c.args.calls.now) (length c.loop-i.answers) = omega (arith, inv.2) in
    let T : List Told → Type 0 = λ ts. Goes g.C.Chart g.R.CodeRule g.F.CellFamily (setting g.C.Chart g.R.CodeRule g.F.CellFamily c.args.design.now c.args.strip.now c.args.out.now) ts (setting g.C.Chart g.R.CodeRule g.F.CellFamily c.loop-i.design c.loop-i.strip c.loop-i.out) in
    record { goes = subst T (tolds_all k n cs c.loop-i.answers i all) inv.0; rest = rest_all k n cs c.args.answers.now c.loop-i.answers i c.loop-i.auto.answers all inv.1 }
