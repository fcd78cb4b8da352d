-- The cells of a design as its user sees them.
use Rattle.std.specs.Prelude.{ℕ, ◌-◌, ◌/◌, ◌%◌, ◌^◌, List, map, length, nat_eq, slice_index}
use Rattle.std.specs.List.{range_with_len}
use Rattle.families.specs.Tables.{tabled}
use Rattle.mapping.specs.States as states
use Rattle.rows.specs.Rows.{items}
use Rattle.design.specs.declared.cell.Cell.{Cell}
use Rattle.design.specs.declared.netlist.Netlist.{Netlist}

-- a cell: the pins that are used, and the table
abbrev pub seen_cell : Cell → states.Cell
seen_cell c = states.cell (items c.pins) c.table

-- the cells that were made
abbrev pub cells_of : Netlist → List states.Cell
cells_of n = map seen_cell (items n.cells)

-- the table whose entry e is the bit of weight 2 ^ (j - 1 - t) of the code of the class with the number at e
abbrev pub number_table : (ℕ → ℕ → ℕ) → ℕ → List ℕ → ℕ → ℕ
number_table code j numbers t = tabled (length numbers) (λ e. nat_eq (code j (slice_index numbers e) / 2 ^ (j - 1 - t) % 2) 1)

-- the first k of the cells on these pins that carry the codes
abbrev pub code_cells : (ℕ → ℕ → ℕ) → ℕ → List ℕ → List ℕ → ℕ → List states.Cell
code_cells code j pins numbers k = map (λ t. states.cell pins (number_table code j numbers t)) (range_with_len 0 k)
