use Rattle.std.proofs.Common.{leb, List, length, sym, ◌∙◌, arith}
use Rattle.std.proofs.lemmas.List.{at_drop_all}
use Rattle.std.proofs.lemmas.Bool.{le-leb}
use Rattle.frames.specs.declared.frame.Frame.{Frame}
use Rattle.frames.specs.Writing.{text_of}
use Rattle.frames.proofs.Buffers.{left_no, left_yes}
use Rattle.frames.proofs.writer.fits.Goals as goal

pub returns-then-spare-need : goal.returns-then-spare-need
returns-then-spare-need c =
    sym (left_no c.args.frames.now c.loop-frame.frame-index c.frame-item.result (omega arith) c.frame-item.is c.loop-frame.spare c.line_len-need.result c.line_len-need.ensures (omega arith))
    ∙ c.loop-frame.invariant

pub loop-frame-preserved : goal.loop-frame-preserved
loop-frame-preserved c =
    left_yes c.args.frames.now c.loop-frame.frame-index c.frame-item.result (omega arith) c.frame-item.is c.loop-frame.spare c.line_len-need.result c.line_len-need.ensures (omega arith)
    ∙ c.loop-frame.invariant

pub returns : goal.returns
returns c =
    sym (le-leb 0 c.loop-frame.spare (omega arith)) ∙ sym (at_drop_all (λ (t : List Frame). leb (length (text_of t)) c.loop-frame.spare) c.args.frames.now c.loop-frame.frame-index (omega arith)) ∙ c.loop-frame.invariant
