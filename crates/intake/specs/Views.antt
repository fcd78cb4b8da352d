-- What the values of the code stand for.
use Rattle.std.specs.Prelude.{◌≡◌, ℕ, List, [], map, length, take, Result}
use Rattle.frames.specs.declared.faults.PageFault.{PageFault}
use Rattle.frames.specs.Pages.{Page, Fills}
use Rattle.rows.specs.Rows.{items}
use Rattle.intake.specs.declared.cell.Cell.{Cell}
use Rattle.intake.specs.declared.cells.Cells.{Cells}
use Rattle.intake.specs.declared.records.Heading.{Heading}
use Rattle.intake.specs.Networks.{NetCell, Network}
use Rattle.intake.specs.Page.{Headed}

-- a cell has these pins and this configuration at its front
abbrev pub Holds : List ℕ → List ℕ → Cell → Type 0
Holds ps cs c = (take (length ps) c.pins ≡ ps) × (take (length cs) c.config ≡ cs)

-- the cells that are listed
abbrev pub listed : Cells → List Cell
listed cs = items cs.cells

-- the cell of a family with K pins and so many configuration bytes
abbrev pub cell_of : ℕ → ℕ → Cell → NetCell
cell_of K size c = record { pins = take K c.pins; config = take size c.config }

-- the network of such cells
abbrev pub network_of : ℕ → ℕ → Cells → Network
network_of K size cs = record { inputs = cs.inputs; cells = map (cell_of K size) (listed cs) }

-- what a heading's value stands for
abbrev pub heading_of : Heading → Headed
heading_of h = record { inputs = h.inputs; count = h.count }

-- a call that takes a network in: the network that the page means, or the fault whole, and the cells are as they were
abbrev pub Loaded : ℕ → ℕ → Page Network → Cells → Cells → Result (Unit {0}) PageFault → Type 0
Loaded K size p before after r = (line : ℕ) × Fills (λ w cs _. w ≡ network_of K size cs) p [] line before after r
