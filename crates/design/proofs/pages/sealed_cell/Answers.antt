use Rattle.std.proofs.Common.{[], ◌∷◌, ◌++◌, ap, ◌∙◌}
use Rattle.std.proofs.lemmas.Result.{IfOk-at_ok}
use Rattle.frames.specs.Text.{sealed}
use Rattle.design.proofs.pages.sealed_cell.Goals as goal

pub returns : goal.returns
returns c =
    let ps = c.args.pins.now in
    let cs = c.args.config.now in
    let content =
    c.as_slice.ensures.value
    ∙ IfOk-at_ok _ c.unwrap-3.ensures c.extend_from_slice-2.ensures.ok
    ∙ ap (λ xs. xs ++ cs) (IfOk-at_ok _ c.unwrap-2.ensures c.extend_from_slice.ensures.ok ∙ ap (λ xs. xs ++ ps) (IfOk-at_ok _ c.unwrap.ensures c.push.ensures.ok ∙ ap (λ xs. xs ++ (c.from.result ∷ [])) c.new-content.ensures ∙ ap (λ k. k ∷ []) c.from.ensures)) in
    let h = c.sealed.ensures in
    let s = rw c.unwrap-4.ensures at h in
    s.2 ∙ ap sealed content
