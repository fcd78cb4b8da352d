use Rattle.std.proofs.Common.{◌≡◌, ℕ, ◌+◌, ◌++◌, map, length, drop, sym, ap, ◌∙◌, zero-mul, arith, rules}
use Rattle.std.proofs.lemmas.List.{append-nil}
use Rattle.std.proofs.lemmas.Result.{IfOk-at_ok}
use Rattle.frames.specs.Outcome.{body}
use Rattle.rows.specs.Rows.{items}
use Rattle.bitpages.specs.Table.{share, parts}
use Rattle.bitpages.specs.Written.{bits_frame}
use Rattle.bitpages.proofs.Packing.{part_push, parts_long, part_is, part_rest, front-long, share-next, share-last}
use Rattle.bitpages.proofs.Sizes.{count-high}
use Rattle.bitpages.proofs.writing.put_shares.Goals as goal

pub loop-part-init : goal.loop-part-init
loop-part-init c =
    let n = c.args.arity.n in
    let bs = c.args.bytes.now in
    let z : c.into_iter-part-iterator.result.size ≡ share c.args.arity.n = search rules in
    let r : c.into_iter-part-iterator.result.rest.now ≡ c.args.bytes.now = search rules in
    (search rules, tt, z, 0, r ∙ ap (λ (j : ℕ). drop j bs) (sym (zero-mul (share n))), omega arith, sym (append-nil (map body (items c.args.frames.now))))

pub unwrap-requires : goal.unwrap-requires
unwrap-requires c =
    let n = c.args.arity.n in
    let bs = c.args.bytes.now in
    let i = c.loop-part.invariant in
    let k = i.3 in
    let e = (c.in-Some.ensures {u = tt}).steps in
    let l = share-next n k bs c.loop-part.part-iterator.rest.now c.in-Some.part.now c.next.new.self.rest.now c.requires.bytes i.4 e.1.0 (e.1.1 ∙ i.2) in
    c.push.ensures.variant.1 (omega (arith, parts_long body bits_frame (share n) k bs (items c.loop-part.frames) (items c.args.frames.now) i.6, count-high n c.args.arity.range.1))

pub loop-part-preserved : goal.loop-part-preserved
loop-part-preserved c =
    let n = c.args.arity.n in
    let bs = c.args.bytes.now in
    let rest = c.loop-part.part-iterator.rest.now in
    let part = c.in-Some.part.now in
    let left = c.next.new.self.rest.now in
    let i = c.loop-part.invariant in
    let k = i.3 in
    let e = (c.in-Some.ensures {u = tt}).steps in
    let wide : length c.in-Some.part.now ≡ share c.args.arity.n = e.1.1 ∙ i.2 in
    let l = share-next n k bs rest part left c.requires.bytes i.4 e.1.0 wide in
    let long = front-long (share n) rest part left e.1.0 wide in
    let is = c.frame_of.ensures ∙ ap bits_frame (part_is (share n) rest part left e.1.0 long k bs i.4) in
    let pushed = IfOk-at_ok _ c.unwrap.ensures c.push.ensures.ok in
    (search rules, tt, e.0 ∙ i.2, k + 1, part_rest (share n) rest part left e.1.0 long k bs i.4, omega arith, ap (map body) pushed ∙ part_push body bits_frame (share n) k bs (items c.loop-part.frames) c.frame_of.result (map body (items c.args.frames.now)) i.6 is)

pub returns : goal.returns
returns c =
    let n = c.args.arity.n in
    let bs = c.args.bytes.now in
    let i = c.loop-part.invariant in
    let e = (c.in-None.ensures {u = tt}).steps in
    let last = share-last n i.3 bs c.loop-part.part-iterator.rest.now c.requires.bytes i.4 (omega (arith, e.1.0, i.2)) i.5 in
    i.6 ∙ ap (λ k. map body (items c.args.frames.now) ++ map bits_frame (parts (share n) k bs)) last
