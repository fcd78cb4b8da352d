use Rattle.std.proofs.Common.{◌≡◌, ℕ, ◌+◌, ◌-◌, ◌*◌, take, drop, ap, ◌∙◌, refl, suc-mul, add-one, zero-mul, sym, arith}
use Rattle.std.proofs.lemmas.List.{length-append}
use Rattle.std.proofs.lemmas.Result.{IfOk-at_ok}
use Rattle.frames.specs.declared.frame.Frame.{Frame}
use Rattle.frames.specs.Outcome.{body}
use Rattle.frames.specs.Reading.{left}
use Rattle.frames.proofs.Pages.{onward-none, onward-err}
use Rattle.rows.specs.Rows.{items}
use Rattle.bitpages.specs.Page.{packed, carried}
use Rattle.bitpages.specs.Table.{share, count}
use Rattle.bitpages.proofs.Packing.{share-room}
use Rattle.bitpages.proofs.Shares.{next_share, then_shares, left_all, left-none, left-more}
use Rattle.bitpages.proofs.Sizes.{share-low, size-high, whole}
use Rattle.bitpages.proofs.loading.read_bytes.Goals as goal

pub loop-i-init : goal.loop-i-init
loop-i-init c =
    let n = c.args.arity.n in
    rw c.new-bytes.ensures (sym (zero-mul (share n)), left_all n (left c.args.reader.now) c.args.reader.now.line)

-- there is a frame more
pub returns-in_err-read_bits : goal.returns-in_err-read_bits
returns-in_err-read_bits c =
    let n = c.args.arity.n in
    let ds = items c.loop-i.bytes in
    let room = share-room n c.loop-i._i (omega arith) in
    let m = left-more c.loop-i.invariant.1 (omega (arith, c.loop-i.invariant.0, share-low n)) in
    onward-err (λ (f : Frame). carried n (body f)) c.loop-i.reader.line (then_shares n m.0 ds (left c.loop-i.reader) c.loop-i.reader.line) m.2 _ _ _ c.in_err-read_bits.field-0.0 c.from_residual.result c.in_err-read_bits.ensures.answer c.from_residual.ensures.1

pub returns-in_err-frame : goal.returns-in_err-frame
returns-in_err-frame c =
    let n = c.args.arity.n in
    let ds = items c.loop-i.bytes in
    let room = share-room n c.loop-i._i (omega arith) in
    let m = left-more c.loop-i.invariant.1 (omega (arith, c.loop-i.invariant.0, share-low n)) in
    let v = c.in_err-frame.ensures.value in
    onward-none (λ (f : Frame). carried n (body f)) c.loop-i.reader.line (then_shares n m.0 ds (left c.loop-i.reader) c.loop-i.reader.line) m.2 _ _ _ c.in_ok-read_bits.field-0 c.in_err-frame.field-0.0 c.from_residual-in_err-frame.result c.in_ok-read_bits.ensures.answer (rw c.line-line.ensures at v) c.from_residual-in_err-frame.ensures.1

pub unwrap-requires : goal.unwrap-requires
unwrap-requires c =
    let n = c.args.arity.n in
    let ds = items c.loop-i.bytes in
    let es = take (1 + c.share-share.result - 1) (drop 1 c.bytes.result.now) in
    let room = share-room n c.loop-i._i (omega arith) in
    let e = c.in_ok-read_bits.ensures in
    let p = next_share n c.share-share.result c.loop-i.reader.line c.read_bits.new.reader.line ds es c.bytes.result.now (left c.loop-i.reader) (left c.read_bits.new.reader) _ c.in_ok-read_bits.field-0 c.in_ok-frame.frame c.loop-i.invariant.1 (omega (arith, c.loop-i.invariant.0, share-low n)) c.share-share.ensures.value e.answer c.in_ok-frame.ensures.ok_part e.long c.bytes.ensures refl e.moved.rest e.moved.line in
    c.extend_from_slice.ensures.variant.1 (omega (arith, p.0, length-append ds es, c.loop-i.invariant.0, size-high n c.args.arity.range.1))

pub loop-i-preserved : goal.loop-i-preserved
loop-i-preserved c =
    let n = c.args.arity.n in
    let i = c.loop-i._i in
    let ds = items c.loop-i.bytes in
    let es = take (1 + c.share-share.result - 1) (drop 1 c.bytes.result.now) in
    let room = share-room n i (omega arith) in
    let e = c.in_ok-read_bits.ensures in
    let p = next_share n c.share-share.result c.loop-i.reader.line c.read_bits.new.reader.line ds es c.bytes.result.now (left c.loop-i.reader) (left c.read_bits.new.reader) _ c.in_ok-read_bits.field-0 c.in_ok-frame.frame c.loop-i.invariant.1 (omega (arith, c.loop-i.invariant.0, share-low n)) c.share-share.ensures.value e.answer c.in_ok-frame.ensures.ok_part e.long c.bytes.ensures refl e.moved.rest e.moved.line in
    let next : i * share n + share n ≡ (i + 1) * share n = omega (arith, ap (λ (j : ℕ). j * share n) (add-one i), suc-mul i (share n)) in
    rw (IfOk-at_ok _ c.unwrap.ensures c.extend_from_slice.ensures.ok) (p.0 ∙ ap (λ (k : ℕ). k + share n) c.loop-i.invariant.0 ∙ next, p.1)

pub returns : goal.returns
returns c =
    let n = c.args.arity.n in
    let all : c.loop-i._i ≡ count c.args.arity.n = omega arith in
    let full = c.loop-i.invariant.0 ∙ ap (λ (k : ℕ). k * share n) all ∙ whole n in
    (packed n (items c.loop-i.bytes), left-none c.loop-i.invariant.1 (omega (arith, full)), refl)
