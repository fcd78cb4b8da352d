use Rattle.std.proofs.Common.{◌≡◌, ℕ, ◌+◌, ◌*◌, ◌/◌, ◌%◌, List, length, get_or, set, ap, ◌∙◌, arith}
use Rattle.std.proofs.lemmas.List.{take_all}
use Rattle.frames.specs.Text.{hex_digit, hex, placed}
use Rattle.frames.proofs.Buffers.{length-hex, length-line, placed_push, placed-none, two_placed}
use Rattle.frames.proofs.writer.put_line.Goals as goal

pub loop-i-init : goal.loop-i-init
loop-i-init c = placed-none c.args.out.now c.args.start

pub loop-i-preserved : goal.loop-i-preserved
loop-i-preserved c =
    let at = c.args.start + 2 * c.loop-i.i in
    let b = get_or c.args.bytes.now c.loop-i.i 0 in
    c.put_byte.ensures ∙ ap (λ (t : List ℕ). set (set t at (hex_digit (b / 16))) (at + 1) (hex_digit (b % 16))) c.loop-i.invariant
    ∙ two_placed c.args.out.now c.args.bytes.now c.args.start c.loop-i.i (omega arith) (omega arith)

pub returns-clause-written : goal.returns-clause-written
returns-clause-written c =
    let bs = c.args.bytes.now in
    let e = take_all c.loop-i.i bs (omega arith) in
    let n = length-hex bs in
    let o : c.loop-i.out ≡ placed c.args.out.now c.args.start (hex bs) = c.loop-i.invariant ∙ ap (λ (t : List ℕ). placed c.args.out.now c.args.start (hex t)) e in
    ap (λ (t : List ℕ). set t (c.args.start + 2 * length bs) 10) o ∙ placed_push 0 c.args.out.now c.args.start (hex bs) 10 (c.args.start + 2 * length bs) (omega arith) (omega arith)

pub returns-clause-stop : goal.returns-clause-stop
returns-clause-stop c = let m = length-line c.args.bytes.now in omega arith
