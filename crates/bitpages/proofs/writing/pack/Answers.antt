use Rattle.std.proofs.Common.{◌≡◌, ℕ, ◌+◌, ◌*◌, [], ◌∷◌, ◌++◌, map, length, min, sym, ap, ◌∙◌, arith, rules}
use Rattle.std.proofs.lemmas.List.{length-drop, length-map, map-id}
use Rattle.std.proofs.lemmas.Result.{IfOk-at_ok}
use Rattle.rows.specs.Rows.{items}
use Rattle.bitpages.specs.Table.{parts, byte_of}
use Rattle.bitpages.proofs.Packing.{part_push, part_is, part_rest}
use Rattle.bitpages.proofs.Parts.{length-parts}
use Rattle.bitpages.proofs.writing.pack.Goals as goal

pub loop-eight-init : goal.loop-eight-init
loop-eight-init c = (search rules, tt, search rules, 0, search rules, search rules, search rules)

pub unwrap-requires : goal.unwrap-requires
unwrap-requires c =
    let es = c.args.table.now in
    let i = c.loop-eight.invariant in
    let e = (c.in-Some.ensures {u = tt}).steps in
    let long = ap length i.6 ∙ length-map (parts 8 i.3 es) byte_of ∙ length-parts 8 i.3 es in
    c.push.ensures.variant.1 (omega (arith, e.1.1, i.2, length-drop (i.3 * 8) es, ap length i.4))

pub loop-eight-preserved : goal.loop-eight-preserved
loop-eight-preserved c =
    let es = c.args.table.now in
    let rest = c.loop-eight.eight-iterator.rest.now in
    let eight = c.in-Some.eight.now in
    let left = c.next.new.self.rest.now in
    let bs = items c.loop-eight.bytes in
    let i = c.loop-eight.invariant in
    let k = i.3 in
    let e = (c.in-Some.ensures {u = tt}).steps in
    let long : length c.in-Some.eight.now ≡ min 8 (length c.loop-eight.eight-iterator.rest.now) = e.1.1 ∙ ap (λ (s : ℕ). min s (length rest)) i.2 in
    let is = c.byte_of.ensures ∙ ap byte_of (part_is 8 rest eight left e.1.0 long k es i.4) in
    let l = length-drop (k * 8) es in
    let r = ap length i.4 in
    let pushed = IfOk-at_ok _ c.unwrap.ensures c.push.ensures.ok in
    let more = part_push (λ (x : ℕ). x) byte_of 8 k es bs c.byte_of.result [] (map-id bs ∙ i.6) is in
    (search rules, tt, e.0 ∙ i.2, k + 1, part_rest 8 rest eight left e.1.0 long k es i.4, omega arith, pushed ∙ sym (map-id (bs ++ (c.byte_of.result ∷ []))) ∙ more)

pub returns : goal.returns
returns c =
    let es = c.args.table.now in
    let i = c.loop-eight.invariant in
    let e = (c.in-None.ensures {u = tt}).steps in
    let l = length-drop (i.3 * 8) es in
    let r = ap length i.4 in
    λ many low high. i.6 ∙ ap (λ (k : ℕ). map byte_of (parts 8 k es)) (omega arith)
