use Rattle.std.proofs.Common.{◌≡◌, take}
use Rattle.functions.specs.Functions.{under}
use Rattle.mapping.specs.States.{values}
use Rattle.design.specs.Designs.{inverted, left_of}
use Rattle.design.proofs.design.Design.left_bit.Given as goal

abbrev pub invariant-loop-depth : goal.invariant-loop-depth
invariant-loop-depth g l =
    (inverted g.C.Chart).column l.self.chart l.depth l.place
    ≡ under (left_of g.C.Chart g.R.CodeRule g.F.CellFamily l.self) (values l.signals (take l.depth l.self.live))
