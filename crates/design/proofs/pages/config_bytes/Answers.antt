use Rattle.std.proofs.Common.{length, replicate, ap, ◌∙◌, arith}
use Rattle.families.specs.Widening.{widened_table}
use Rattle.mapping.proofs.Pages.{widened_is_table}
use Rattle.rows.specs.Rows.{items}
use Rattle.design.proofs.Written.{packed_front}
use Rattle.design.proofs.pages.config_bytes.Goals as goal

pub returns : goal.returns
returns g c =
    let fa = g.F.CellFamily in
    let f = c.args.family.now in
    let cell = c.args.cell.now in
    let w = widened_table (fa.pins f) (length (items cell.pins)) cell.table in
    let is = c.full_table-table.ensures in
    let many = fa.laws.sized f w (widened_is_table (fa.pins f) (length (items cell.pins)) cell.table) in
    record {
      long = omega arith;
      config = packed_front (fa.packed f c.full_table-table.result) (replicate 16 0) c.pack.new.out c.pack.result (fa.size f) (ap (λ t. length (fa.packed f t)) is ∙ many) (fa.laws.few_bytes f) c.pack.ensures ∙ ap (fa.packed f) is;
    }
