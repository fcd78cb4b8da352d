use Rattle.std.proofs.Common.{◌≡◌, ℕ, length, get_or, ap, ◌∙◌}
use Rattle.frames.specs.Kinds.{kind_of}
use Rattle.frames.specs.Outcome.{body}
use Rattle.frames.specs.Text.{byte_digits}
use Rattle.frames.specs.Words.{kind_name}
use Rattle.reports.specs.Words.{frame_pieces}
use Rattle.reports.proofs.Texts.{made_as}
use Rattle.reports.proofs.words.frame_text.Goals as goal

pub returns : goal.returns
returns c =
    let bs = body c.args.frame.now in
    let kind : c.as_str.result.now ≡ byte_digits (get_or bs 0 0) = c.as_str.ensures.value ∙ c.in_ok-kind.ensures ∙ ap byte_digits c.kind.ensures in
    let count : c.len.result ≡ length bs = c.len.ensures.value in
    let name : c.name_of-name.result.now ≡ kind_name (kind_of (get_or bs 0 0)) = c.name_of-name.ensures ∙ ap (λ (b : ℕ). kind_name (kind_of b)) c.kind-2.ensures in
    made_as _ _ _ (λ i. frame_pieces c.args.line (kind i) (count i) (name i)) c.frame_pieces.ensures
