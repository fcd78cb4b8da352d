use Rattle.std.proofs.Common.{◌≡◌, ◌^◌, ◌≤◌, List, ℕ, [], ◌∷◌, ◌++◌, map, length, ap, ◌∙◌, subst, Ok, Err, arith, pow_mono, rules}
use Rattle.std.proofs.lemmas.List.{length-map}
use Rattle.std.proofs.lemmas.Result.{IfOk-at_ok, err_from_is_err_and}
use Rattle.frames.specs.declared.frame.Frame.{Frame}
use Rattle.frames.specs.Outcome.{body}
use Rattle.frames.specs.Text.{text}
use Rattle.frames.specs.Writing.{Wrote}
use Rattle.bitpages.specs.Table.{size, share, count, parts, byte_of}
use Rattle.bitpages.specs.Written.{bits_frame, heading_frame}
use Rattle.bitpages.proofs.Parts.{length-parts}
use Rattle.bitpages.proofs.Sizes.{size_room, size-tight}
use Rattle.bitpages.proofs.writing.write_table.Goals as goal

pub pack-bytes-requires : goal.pack-bytes-requires
pack-bytes-requires c =
    let high : c.args.n ≤ 12 = search rules in
    omega (arith, c.if-table-power.false ∙ c.power.ensures.within (omega (arith, high)), pow_mono high)

pub put_shares-requires-clause-bytes : goal.put_shares-requires-clause-bytes
put_shares-requires-clause-bytes c =
    let n = c.args.n in
    let ps = parts 8 (size n) c.args.table.now in
    let long : length c.args.table.now ≡ 2 ^ c.args.n = c.if-table-power.false ∙ c.power.ensures.within (omega arith) in
    let packed = c.pack-bytes.ensures (size n) (omega (arith, size_room n)) (omega (arith, size-tight n)) in
    ap length (c.as_slice.ensures.value ∙ packed) ∙ length-map ps byte_of ∙ length-parts 8 (size n) c.args.table.now

pub returns-in_err-write_frames : goal.returns-in_err-write_frames
returns-in_err-write_frames c =
    let n = c.args.n in
    let es = c.args.table.now in
    let long : length c.args.table.now ≡ 2 ^ c.args.n = c.if-table-power.false ∙ c.power.ensures.within (omega arith) in
    let packed = c.as_slice.ensures.value ∙ c.pack-bytes.ensures (size n) (omega (arith, size_room n)) (omega (arith, size-tight n)) in
    let first = ap (map body) (IfOk-at_ok _ c.unwrap.ensures c.push.ensures.ok ∙ ap (λ (fs : List Frame). fs ++ (c.frame_of-heading.result ∷ [])) c.new-frames.ensures) ∙ ap (λ (h : List ℕ). h ∷ []) c.frame_of-heading.ensures in
    let page =
    ap (map body) c.as_slice-2.ensures.value ∙ c.put_shares.ensures ∙ ap (λ (hs : List (List ℕ)). hs ++ map bits_frame (parts (share n) (count n) c.as_slice.result.now)) first
    ∙ ap (λ (ds : List ℕ). heading_frame n ∷ map bits_frame (parts (share n) (count n) ds)) packed in
    let p = err_from_is_err_and c.from_residual.result c.from_residual.ensures.1 in
    rw (p.1, p.2) ((omega arith, omega arith, long), subst (λ xs. Wrote xs c.args.out.now c.write_frames.new.out (Err c.in_err-write_frames.field-0.0)) (ap text page) c.in_err-write_frames.ensures.wrote)

pub returns : goal.returns
returns c =
    let n = c.args.n in
    let es = c.args.table.now in
    let long : length c.args.table.now ≡ 2 ^ c.args.n = c.if-table-power.false ∙ c.power.ensures.within (omega arith) in
    let packed = c.as_slice.ensures.value ∙ c.pack-bytes.ensures (size n) (omega (arith, size_room n)) (omega (arith, size-tight n)) in
    let first = ap (map body) (IfOk-at_ok _ c.unwrap.ensures c.push.ensures.ok ∙ ap (λ (fs : List Frame). fs ++ (c.frame_of-heading.result ∷ [])) c.new-frames.ensures) ∙ ap (λ (h : List ℕ). h ∷ []) c.frame_of-heading.ensures in
    let page =
    ap (map body) c.as_slice-2.ensures.value ∙ c.put_shares.ensures ∙ ap (λ (hs : List (List ℕ)). hs ++ map bits_frame (parts (share n) (count n) c.as_slice.result.now)) first
    ∙ ap (λ (ds : List ℕ). heading_frame n ∷ map bits_frame (parts (share n) (count n) ds)) packed in
    ((omega arith, omega arith, long), subst (λ xs. Wrote xs c.args.out.now c.write_frames.new.out (Ok c.in_ok-write_frames.field-0)) (ap text page) c.in_ok-write_frames.ensures.wrote)
