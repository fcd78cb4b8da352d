use Rattle.std.proofs.Common.{length, sym, refl, ap, ◌∙◌, arith}
use Rattle.std.proofs.lemmas.List.{length-append, length_push}
use Rattle.std.proofs.lemmas.Result.{IfOk-at_ok}
use Rattle.rows.specs.Rows.{items}
use Rattle.frames.specs.Text.{bytes_of}
use Rattle.frames.proofs.Digits.{byte_more, bounded-none, bytes_of-length, onto_nil}
use Rattle.frames.proofs.hex.bytes_of.Goals as goal

pub returns-then-not-writes_frame-clause-value : goal.returns-then-not-writes_frame-clause-value
returns-then-not-writes_frame-clause-value c =
    sym (bounded-none (bytes_of c.args.digits.now) (λ bs e low high. let n = bytes_of-length c.args.digits.now bs e in c.if-not-writes_frame.ensures.no refl (omega arith) (omega arith) (omega arith)))

pub loop-pair-init : goal.loop-pair-init
loop-pair-init c =
    rw (c.into_iter-pair-iterator.ensures.into_iter_gives, c.chunks_exact-pair-items.ensures.rest, c.new-bytes.ensures)
    (c.chunks_exact-pair-items.ensures.size, omega arith, onto_nil (bytes_of c.args.digits.now))

pub loop-pair-preserved : goal.loop-pair-preserved
loop-pair-preserved c =
    let s = c.in-Some.ensures.steps in
    let i = c.loop-pair.invariant in
    let two = s.1.1 ∙ i.0 in
    let pushed = IfOk-at_ok _ c.unwrap.ensures c.push.ensures.ok in
    let more = byte_more _ c.in-Some.pair.now c.next.new.self.rest.now (items c.loop-pair.bytes) _ _ _ s.1.0 two
    (sym c.in_ok-digit_value.ensures.value) (sym c.in_ok-byte.ensures.value) i.2 in
    let n = ap length s.1.0 in
    let m = length-append c.in-Some.pair.now c.next.new.self.rest.now in
    let l = ap length pushed ∙ length_push (items c.loop-pair.bytes) _ in
    (s.0 ∙ i.0, omega arith, rw pushed more)
