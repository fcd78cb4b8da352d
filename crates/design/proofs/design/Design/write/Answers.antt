use Rattle.std.proofs.Common.{[], ◌∷◌, ◌++◌, map, ap, ◌∙◌, arith}
use Rattle.std.proofs.lemmas.List.{take_all}
use Rattle.std.proofs.lemmas.Result.{IfOk-at_ok, err_from_is_err_and}
use Rattle.frames.specs.Outcome.{body}
use Rattle.frames.specs.Text.{text}
use Rattle.intake.specs.Written.{heading_frame, cell_frame}
use Rattle.mapping.specs.Kept.{configured}
use Rattle.rows.specs.Rows.{items}
use Rattle.design.specs.Cells.{seen_cell}
use Rattle.design.specs.Designs.{network_seen}
use Rattle.design.proofs.Written.{frames_count, frames_more, page_written, write_open, write_short, write_done}
use Rattle.design.proofs.design.Design.write.Goals as goal

pub returns-then-not-self : goal.returns-then-not-self
returns-then-not-self g c = write_open g.C.Chart g.R.CodeRule g.F.CellFamily c.args.self.now c.args.out.now c.if-not-self.true

pub unwrap-requires-in-loop-cell : goal.unwrap-requires-in-loop-cell
unwrap-requires-in-loop-cell g c =
    let fa = g.F.CellFamily in
    let d = c.args.self.now in
    let n = frames_count (λ x. cell_frame (configured (fa.pins d.family) (fa.packed d.family) (seen_cell x))) (items c.loop-cell.frames) c.as_slice-cell-items.result.now (heading_frame (fa.number d.family) (network_seen g.C.Chart g.R.CodeRule fa d) ∷ []) c.loop-cell.cell-index (omega arith) c.loop-cell.invariant in
    c.push-in-loop-cell.ensures.variant.1 (omega (arith, c.as_slice-cell-items.ensures.few))

pub loop-cell-init : goal.loop-cell-init
loop-cell-init g c = ap (map body) (IfOk-at_ok _ c.unwrap.ensures c.push.ensures.ok ∙ ap (λ fs. fs ++ (c.heading-heading.result ∷ [])) c.new-frames.ensures) ∙ ap (λ h. h ∷ []) c.heading-heading.ensures

pub loop-cell-preserved : goal.loop-cell-preserved
loop-cell-preserved g c =
    let fa = g.F.CellFamily in
    let d = c.args.self.now in
    ap (map body) (IfOk-at_ok _ c.unwrap-in-loop-cell.ensures c.push-in-loop-cell.ensures.ok)
    ∙ frames_more (λ x. cell_frame (configured (fa.pins d.family) (fa.packed d.family) (seen_cell x))) (items c.loop-cell.frames) c.as_slice-cell-items.result.now (heading_frame (fa.number d.family) (network_seen g.C.Chart g.R.CodeRule fa d) ∷ []) c.loop-cell.cell-index c.cell-item.result c.frame_of.result
    c.loop-cell-test.true c.loop-cell.invariant (c.frame_of.ensures ∙ ap (λ x. cell_frame (configured (fa.pins d.family) (fa.packed d.family) (seen_cell x))) c.cell-item.is)

pub returns : goal.returns
returns g c =
    let d = c.args.self.now in
    let fa = g.F.CellFamily in
    let all = page_written g.C.Chart g.R.CodeRule g.F.CellFamily d c.args.out.now c.as_slice.result.now
    (ap (map body) c.as_slice.ensures.value ∙ c.loop-cell.invariant
    ∙ ap (λ xs. (heading_frame (fa.number d.family) (network_seen g.C.Chart g.R.CodeRule fa d) ∷ []) ++ map (λ x. cell_frame (configured (fa.pins d.family) (fa.packed d.family) (seen_cell x))) xs) (take_all c.loop-cell.cell-index c.as_slice-cell-items.result.now (omega arith) ∙ c.as_slice-cell-items.ensures.value)) in
    let wrote = c.in_ok-write_frames.ensures.wrote in
    write_done g.C.Chart g.R.CodeRule g.F.CellFamily d c.args.out.now c.if-not-self.false (text (map body c.as_slice.result.now)) c.write_frames.new.out
    all c.in_ok-write_frames.field-0 wrote.0 wrote.1 wrote.2

pub returns-in_err-write_frames : goal.returns-in_err-write_frames
returns-in_err-write_frames g c =
    let d = c.args.self.now in
    let wrote = c.in_err-write_frames.ensures.wrote in
    let fa = g.F.CellFamily in
    let all = page_written g.C.Chart g.R.CodeRule g.F.CellFamily d c.args.out.now c.as_slice.result.now
    (ap (map body) c.as_slice.ensures.value ∙ c.loop-cell.invariant
    ∙ ap (λ xs. (heading_frame (fa.number d.family) (network_seen g.C.Chart g.R.CodeRule fa d) ∷ []) ++ map (λ x. cell_frame (configured (fa.pins d.family) (fa.packed d.family) (seen_cell x))) xs) (take_all c.loop-cell.cell-index c.as_slice-cell-items.result.now (omega arith) ∙ c.as_slice-cell-items.ensures.value)) in
    let p = err_from_is_err_and c.from_residual.result c.from_residual.ensures.1 in
    rw (p.1, p.2) (write_short g.C.Chart g.R.CodeRule g.F.CellFamily d c.args.out.now c.if-not-self.false (text (map body c.as_slice.result.now)) c.write_frames.new.out
    all wrote.0 wrote.2)
