use Rattle.std.proofs.Common.{◌≡◌, ℕ, Ok, Err, Result, sym, ap, ◌∙◌}
use Rattle.std.specs.Result.{result_ok}
use Rattle.frames.specs.declared.kinds.Kind.{Kind}
use Rattle.frames.specs.declared.kinds.UnknownKind.{UnknownKind}
use Rattle.frames.specs.Kinds.{kind_of, KindOf}
use Rattle.frames.specs.Words.{kind_name}
use Rattle.reports.proofs.words.name_of.Goals as goal

kind_read : (b : ℕ) (r : Result Kind UnknownKind) → KindOf b r → result_ok r ≡ kind_of b
kind_read b (Ok k) h = sym h.0
kind_read b (Err e) h = sym h.0

pub returns : goal.returns
returns c = c.kind_name.ensures ∙ ap kind_name (c.ok.ensures.value ∙ kind_read c.args.byte c.try_from.result c.try_from.ensures)
