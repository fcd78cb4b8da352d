use Rattle.std.proofs.Common.{◌≡◌, [], ◌∷◌, ◌++◌, map, take}
use Rattle.frames.specs.Outcome.{body}
use Rattle.intake.specs.Written.{heading_frame, cell_frame}
use Rattle.mapping.specs.Kept.{configured}
use Rattle.rows.specs.Rows.{items}
use Rattle.design.specs.Cells.{seen_cell}
use Rattle.design.specs.Designs.{network_seen}
use Rattle.design.proofs.design.Design.write.Given as goal

abbrev pub invariant-loop-cell : goal.invariant-loop-cell
invariant-loop-cell g l =
    map body (items l.frames)
    ≡ (heading_frame (g.F.CellFamily.number l.self.family) (network_seen g.C.Chart g.R.CodeRule g.F.CellFamily l.self) ∷ [])
    ++ map (λ x. cell_frame (configured (g.F.CellFamily.pins l.self.family) (g.F.CellFamily.packed l.self.family) (seen_cell x))) (take l.cell-index l.cell-items)
