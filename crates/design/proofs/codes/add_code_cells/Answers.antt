use Rattle.std.proofs.Common.{[], ◌∷◌, ◌++◌, length, sym, ap, ◌∙◌, arith}
use Rattle.std.proofs.lemmas.List.FromFn.{length-map-range_with_len, map-range_with_len_more}
use Rattle.std.proofs.lemmas.List.{append_assoc, length-append}
use Rattle.mapping.specs.States.{cell}
use Rattle.rows.specs.Rows.{items}
use Rattle.design.specs.Cells.{cells_of, number_table, code_cells}
use Rattle.design.proofs.codes.add_code_cells.Goals as goal

pub add-requires : goal.add-requires
add-requires g c =
    let old = cells_of c.args.netlist.now in
    let made = code_cells (g.R.CodeRule.code c.args.rule.now) c.args.j (items c.args.pins) c.args.numbers.now c.loop-t.t in
    let n = ap length c.loop-t.invariant.0 ∙ length-append old made in
    let k = length-map-range_with_len (λ t. cell (items c.args.pins) (number_table (g.R.CodeRule.code c.args.rule.now) c.args.j c.args.numbers.now t)) 0 c.loop-t.t in
    omega (arith, n, k)

pub loop-t-preserved : goal.loop-t-preserved
loop-t-preserved g c =
    let t = c.loop-t.t in
    let ps = items c.args.pins in
    let ns = c.args.numbers.now in
    let code = g.R.CodeRule.code c.args.rule.now in
    let old = cells_of c.args.netlist.now in
    let inv = c.loop-t.invariant in
    let made = code_cells code c.args.j ps ns t in
    let new = cell ps (number_table code c.args.j ns t) in (
      c.add.ensures.cells
          ∙ ap (λ w. cells_of c.loop-t.netlist ++ (cell ps w ∷ [])) c.code_table-table.ensures
          ∙ ap (λ cs. cs ++ (new ∷ [])) inv.0
          ∙ append_assoc old made (new ∷ [])
          ∙ ap (λ cs. old ++ cs) (sym (map-range_with_len_more (λ k. cell ps (number_table code c.args.j ns k)) 0 t t (omega arith))),
      c.add.ensures.closed ∙ inv.1,
    )
