use Rattle.std.proofs.Common.{◌≡◌, ◌++◌, map, take}
use Rattle.families.specs.Laws.{meant}
use Rattle.intake.specs.Networks.{input_bits, yielded, cell_bit}
use Rattle.intake.specs.Views.{cell_of}
use Rattle.intake.proofs.network.Network.pin.Given as goal

abbrev pub invariant-loop-cell : goal.invariant-loop-cell
invariant-loop-cell g l =
    let K = g.F.CellFamily.pins l.self.family in
    let size = g.F.CellFamily.size l.self.family in
    l.signals ≡ input_bits l.inputs ++ yielded (cell_bit (meant size K (g.F.CellFamily.reads l.self.family))) (input_bits l.inputs) (map (cell_of K size) (take l.cell-index l.cell-items))
