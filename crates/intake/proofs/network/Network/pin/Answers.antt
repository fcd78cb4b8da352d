use Rattle.std.proofs.Common.{◌∙◌, arith}
use Rattle.std.proofs.lemmas.Result.{IfOk-at_ok}
use Rattle.families.specs.Laws.{meant}
use Rattle.intake.specs.Networks.{input_bits, cell_bit}
use Rattle.intake.specs.Views.{cell_of}
use Rattle.intake.proofs.Yields.{length_viewed, viewed_push}
use Rattle.intake.proofs.network.Network.pin.Goals as goal

pub unwrap-requires : goal.unwrap-requires
unwrap-requires g c =
    let f = c.args.self.now.family in
    let K = g.F.CellFamily.pins f in
    let size = g.F.CellFamily.size f in
    let n = length_viewed (cell_bit (meant size K (g.F.CellFamily.reads f))) (cell_of K size) (input_bits c.args.inputs) c.as_slice-cell-items.result.now c.loop-cell.cell-index c.loop-cell.signals c.loop-cell.invariant (omega arith) in
    c.push.ensures.variant.1 (omega arith)

pub loop-cell-preserved : goal.loop-cell-preserved
loop-cell-preserved g c =
    let f = c.args.self.now.family in
    let K = g.F.CellFamily.pins f in
    let size = g.F.CellFamily.size f in
    IfOk-at_ok _ c.unwrap.ensures c.push.ensures.ok
    ∙ viewed_push (cell_bit (meant size K (g.F.CellFamily.reads f))) (cell_of K size) (input_bits c.args.inputs) c.as_slice-cell-items.result.now c.loop-cell.cell-index c.loop-cell.signals c.loop-cell.invariant _ c.bit.result c.loop-cell-test.true c.bit.ensures
