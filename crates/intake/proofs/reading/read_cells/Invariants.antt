use Rattle.std.proofs.Common.{◌≡◌, [], map, length}
use Rattle.frames.specs.Reading.{left}
use Rattle.intake.specs.Page.{cells_from}
use Rattle.intake.specs.Views.{listed, cell_of}
use Rattle.intake.proofs.Remaining.{Left}
use Rattle.intake.proofs.reading.read_cells.Given as goal

abbrev pub invariant-loop-before : goal.invariant-loop-before
invariant-loop-before l =
    (length (listed l.cells) ≡ l.before)
    × (l.cells.inputs ≡ l.shape.of.inputs)
    × Left l.shape.of.inputs l.shape.of.pins l.shape.of.bytes l.count l.before (map (cell_of l.shape.of.pins l.shape.of.bytes) (listed l.cells)) (left l.reader) l.reader.line
    (cells_from l.shape.of.inputs l.shape.of.pins l.shape.of.bytes l.count [] (left l.initial.reader) l.initial.reader.line)
