use Rattle.std.proofs.Common.{ap, ◌∙◌, arith}
use Rattle.std.proofs.lemmas.Result.{IfOk-at_ok}
use Rattle.intake.specs.Networks.{input_bits}
use Rattle.intake.proofs.Yields.{length_viewed, viewed_push}
use Rattle.mapping.specs.States.{yield}
use Rattle.design.specs.Cells.{seen_cell}
use Rattle.design.proofs.netlist.Netlist.signals.Goals as goal

pub unwrap-requires : goal.unwrap-requires
unwrap-requires c =
    let n = length_viewed yield seen_cell (input_bits c.args.inputs) c.as_slice-cell-items.result.now c.loop-cell.cell-index c.loop-cell.signals c.loop-cell.invariant (omega arith) in
    c.push.ensures.variant.1 (omega arith)

pub loop-cell-preserved : goal.loop-cell-preserved
loop-cell-preserved c =
    IfOk-at_ok _ c.unwrap.ensures c.push.ensures.ok ∙ viewed_push yield seen_cell (input_bits c.args.inputs) c.as_slice-cell-items.result.now c.loop-cell.cell-index c.loop-cell.signals c.loop-cell.invariant c.cell-item.result c.bit.result c.loop-cell-test.true (c.bit.ensures ∙ ap (λ x. yield c.loop-cell.signals (seen_cell x)) c.cell-item.is)
