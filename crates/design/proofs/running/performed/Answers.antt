use Rattle.std.proofs.Common.{length}
use Rattle.design.specs.Runs.{tolds}
use Rattle.design.proofs.Performed.{kept_run}
use Rattle.design.proofs.running.performed.Goals as goal

pub returns-clause-kept : goal.returns-clause-kept
returns-clause-kept g c =
    kept_run g.C.Chart g.R.CodeRule g.F.CellFamily c.args.chart c.args.rule c.args.family c.args.strip.now c.args.out.now (tolds (length c.args.strip.now) (length c.args.out.now) c.args.calls.now c.run.new.answers) c.run.new.design
    c.run.new.strip c.run.new.out c.open-design.result c.open-design.ensures c.run.ensures.goes
