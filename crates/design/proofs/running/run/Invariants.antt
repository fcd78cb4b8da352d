use Rattle.std.proofs.Common.{◌≡◌, ◌≤◌, length, take, drop}
use Rattle.design.specs.Runs.{tolds, setting, Goes}
use Rattle.design.proofs.running.run.Given as goal

abbrev pub invariant-loop-i : goal.invariant-loop-i
invariant-loop-i g l =
    Goes g.C.Chart g.R.CodeRule g.F.CellFamily (setting g.C.Chart g.R.CodeRule g.F.CellFamily l.initial.design l.initial.strip l.initial.out)
    (tolds (length l.initial.strip) (length l.initial.out) (take l.i l.calls) (take l.i l.answers)) (setting g.C.Chart g.R.CodeRule g.F.CellFamily l.design l.strip l.out)
    × (drop l.i l.answers ≡ drop l.i l.initial.answers)
    × (l.i ≤ length l.calls)
