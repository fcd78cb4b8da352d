use Rattle.std.proofs.Common.{◌∷◌, ◌++◌, take, sym, ap, ◌∙◌, arith}
use Rattle.std.proofs.lemmas.List.{length-take-le}
use Rattle.frames.specs.Text.{sealed}
use Rattle.mapping.specs.Kept.{configured}
use Rattle.design.specs.Cells.{seen_cell}
use Rattle.design.proofs.pages.frame_of.Goals as goal

pub slice_bounds-sealed_cell-end : goal.slice_bounds-sealed_cell-end
slice_bounds-sealed_cell-end g c =
    let few = g.F.CellFamily.laws.few_pins c.args.family.now in
    sym (length-take-le c.pins.result c.pin_bytes-pins.result (omega (arith, c.pins.ensures, c.pin_bytes-pins.ensures.long)))

pub returns : goal.returns
returns g c =
    let fa = g.F.CellFamily in
    let f = c.args.family.now in
    let w = configured (fa.pins f) (fa.packed f) (seen_cell c.args.cell.now) in
    c.sealed_cell.ensures
    ∙ ap (λ xs. sealed (0x12 ∷ (xs ++ take (c.bytes.result) c.config_bytes-config.result))) (ap (λ i. take i c.pin_bytes-pins.result) c.pins.ensures ∙ c.pin_bytes-pins.ensures.pins (fa.pins f) (fa.laws.few_pins f))
    ∙ ap (λ xs. sealed (0x12 ∷ (w.pins ++ xs))) (ap (λ i. take i c.config_bytes-config.result) c.bytes.ensures ∙ c.config_bytes-config.ensures.config)
