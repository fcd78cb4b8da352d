use Rattle.std.proofs.Common.{◌≡◌, map, take}
use Rattle.intake.specs.Networks.{input_bits}
use Rattle.mapping.specs.States.{signals}
use Rattle.design.specs.Cells.{seen_cell}
use Rattle.design.proofs.netlist.Netlist.signals.Given as goal

abbrev pub invariant-loop-cell : goal.invariant-loop-cell
invariant-loop-cell l = l.signals ≡ signals (input_bits l.inputs) (map seen_cell (take l.cell-index l.cell-items))
