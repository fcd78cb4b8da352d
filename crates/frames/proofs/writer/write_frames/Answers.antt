use Rattle.std.proofs.Common.{◌≡◌, ℕ, ◌+◌, List, map, length, take, drop, sym, refl, ap, ◌∙◌, arith, rules}
use Rattle.std.proofs.lemmas.List.{take_all, take_at, length-append}
use Rattle.std.proofs.lemmas.Bool.{leb-true}
use Rattle.frames.specs.declared.frame.Frame.{Frame}
use Rattle.frames.specs.Outcome.{body}
use Rattle.frames.specs.Text.{line_text, placed, over}
use Rattle.frames.specs.Writing.{text_of}
use Rattle.frames.proofs.Buffers.{text-more, text-room, over-placed}
use Rattle.frames.proofs.RoundTrip.{reading_tells, line_reads, written_reads, read_is_written, sound_all}
use Rattle.frames.proofs.writer.write_frames.Goals as goal

pub put_line-at-requires : goal.put_line-at-requires
put_line-at-requires c =
    let room = text-room c.args.frames.now c.loop-frame.frame-index c.frame-item.result (omega arith) c.frame-item.is in
    let all = leb-true _ _ (sym c.if-not-fits.ensures) in
    let n = ap length c.bytes.ensures in
    omega (arith, c.loop-frame.invariant.0)

pub loop-frame-preserved : goal.loop-frame-preserved
loop-frame-preserved c =
    let fs = c.args.frames.now in
    let i = c.loop-frame.frame-index in
    let o = c.args.out.now in
    let f = c.frame-item.result in
    let t = text-more fs i f (omega arith) c.frame-item.is in
    let room = text-room fs i f (omega arith) c.frame-item.is in
    let all = leb-true _ _ (sym c.if-not-fits.ensures) in
    let b : c.bytes.result.now ≡ body f = c.bytes.ensures in
    let at : c.loop-frame.at ≡ length (text_of (take i fs)) = c.loop-frame.invariant.0 in
    let w : c.put_line-at.new.out ≡ placed c.loop-frame.out c.loop-frame.at (line_text c.bytes.result.now) = c.put_line-at.ensures.written in
    let s : c.put_line-at.result ≡ c.loop-frame.at + length (line_text c.bytes.result.now) = c.put_line-at.ensures.stop in
    let n = length-append (text_of (take i fs)) (line_text (body f)) in
    let m : c.put_line-at.new.out ≡ placed (over o (text_of (take i fs))) (length (text_of (take i fs))) (line_text (body f)) = cc c.loop-frame.invariant.1 in
    ((cc), m ∙ over-placed o (text_of (take i fs)) (line_text (body f)) (omega arith) ∙ ap (over o) (sym t))

pub returns : goal.returns
returns c =
    let fs = c.args.frames.now in
    let e : take c.loop-frame.frame-index fs ≡ fs = take_all c.loop-frame.frame-index fs (omega arith) in
    let n : c.loop-frame.at ≡ length (text_of fs) = c.loop-frame.invariant.0 ∙ ap (λ (t : List Frame). length (text_of t)) e in
    let o : c.loop-frame.out ≡ over c.args.out.now (text_of fs) = c.loop-frame.invariant.1 ∙ ap (λ (t : List Frame). over c.args.out.now (text_of t)) e in
    let t : take c.loop-frame.at c.loop-frame.out ≡ text_of fs = ap (λ (k : ℕ). take k c.loop-frame.out) n ∙ ap (take (length (text_of fs))) o ∙ take_at (text_of fs) (drop (length (text_of fs)) c.args.out.now) (length (text_of fs)) refl in
    record {
      wrote = (leb-true _ _ (sym c.if-not-fits.ensures), n, o);
      reads = rw t (written_reads (map body fs) 1 (sound_all fs));
      law = ((reading_tells, line_reads), (written_reads, read_is_written));
    }

pub returns-then-not-fits : goal.returns-then-not-fits
returns-then-not-fits c =
    record {
      wrote = search rules;
      reads = tt;
      law = ((reading_tells, line_reads), (written_reads, read_is_written));
    }
