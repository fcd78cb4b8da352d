use Rattle.design.proofs.Openings.{design-opened}
use Rattle.design.proofs.design.Design.open.Goals as goal

pub returns : goal.returns
returns g c =
    design-opened g.C.Chart g.R.CodeRule g.F.CellFamily c.args.chart c.args.rule c.args.family c.new.result c.count-inputs.result c.input_signals.result c.empty.result
    c.new.ensures c.count-inputs.ensures c.input_signals.ensures c.empty.ensures.cells c.empty.ensures.still
