use Rattle.std.proofs.Common.{[], ◌∷◌, sym, ap, ◌∙◌}
use Rattle.std.proofs.lemmas.List.{length-map}
use Rattle.frames.specs.Text.{sealed}
use Rattle.mapping.specs.Kept.{configured}
use Rattle.design.specs.Cells.{cells_of}
use Rattle.design.proofs.design.Design.heading.Goals as goal

pub returns : goal.returns
returns g c =
    let d = c.args.self.now in
    let h = c.sealed.ensures in
    let s = rw c.unwrap.ensures at h in
    let many = c.count.ensures.value ∙ sym (length-map (cells_of d.netlist) (configured (g.F.CellFamily.pins d.family) (g.F.CellFamily.packed d.family))) in
    s.2
    ∙ ap sealed c.heading_content-content.ensures
    ∙ ap (λ k. sealed (0x11 ∷ k ∷ d.inputs ∷ c.count.result ∷ [])) c.number.ensures
    ∙ ap (λ k. sealed (0x11 ∷ g.F.CellFamily.number d.family ∷ d.inputs ∷ k ∷ [])) many
