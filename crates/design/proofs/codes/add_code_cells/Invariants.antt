use Rattle.std.proofs.Common.{◌≡◌, ◌++◌}
use Rattle.rows.specs.Rows.{items}
use Rattle.design.specs.Cells.{cells_of, code_cells}
use Rattle.design.proofs.codes.add_code_cells.Given as goal

abbrev pub invariant-loop-t : goal.invariant-loop-t
invariant-loop-t g l =
    (cells_of l.netlist ≡ cells_of l.initial.netlist ++ code_cells (g.R.CodeRule.code l.rule) l.j (items l.pins) l.numbers l.t)
    × (l.netlist.closed ≡ l.initial.netlist.closed)
