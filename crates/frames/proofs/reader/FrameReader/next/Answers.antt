use Rattle.std.proofs.Common.{sym, ◌∙◌, arith}
use Rattle.std.proofs.lemmas.Result.{err_from_is_err_and}
use Rattle.frames.proofs.Lines.{no_line, next-line, open_line, ended-line}
use Rattle.frames.proofs.reader.FrameReader.next.Goals as goal

pub returns-then-start-bytes : goal.returns-then-start-bytes
returns-then-start-bytes c =
    let p = no_line c.args.self.now.bytes.now c.args.self.now.at c.args.self.now.line c.if-start-bytes.true in
    record { answer = sym p.0; moved = record { rest = p.1; line = sym p.2 } }

pub returns-then-end-bytes : goal.returns-then-end-bytes
returns-then-end-bytes c =
    let h = c.args.self.now.within in
    let s = c.line_end-end.ensures.value in
    let p = open_line c.args.self.now.bytes.now c.args.self.now.at c.args.self.now.line c.line_end-end.result (omega arith) s c.if-end-bytes.true in
    let q = next-line c.args.self.now.bytes.now c.args.self.now.at c.args.self.now.line c.line_end-end.result (omega arith) s in
    record { answer = sym p.0; moved = record { rest = c.go_on.ensures.at ∙ p.1; line = c.go_on.ensures.line ∙ sym q } }

pub returns-in_err-frame_of : goal.returns-in_err-frame_of
returns-in_err-frame_of c =
    let h = c.args.self.now.within in
    let s = c.line_end-end.ensures.value in
    let p = ended-line c.args.self.now.bytes.now c.args.self.now.at c.args.self.now.line c.line_end-end.result (omega arith) s (omega arith) in
    let q = next-line c.args.self.now.bytes.now c.args.self.now.at c.args.self.now.line c.line_end-end.result (omega arith) s in
    let e = err_from_is_err_and c.from_residual.result c.from_residual.ensures.1 in
    rw (e.1, e.2) (record { answer = c.in_err-frame_of.ensures ∙ sym p.0; moved = record { rest = c.go_on-2.ensures.at ∙ p.1; line = c.go_on-2.ensures.line ∙ sym q } })

pub returns : goal.returns
returns c =
    let h = c.args.self.now.within in
    let s = c.line_end-end.ensures.value in
    let p = ended-line c.args.self.now.bytes.now c.args.self.now.at c.args.self.now.line c.line_end-end.result (omega arith) s (omega arith) in
    let q = next-line c.args.self.now.bytes.now c.args.self.now.at c.args.self.now.line c.line_end-end.result (omega arith) s in
    record { answer = c.in_ok-frame_of.ensures ∙ sym p.0; moved = record { rest = c.go_on-2.ensures.at ∙ p.1; line = c.go_on-2.ensures.line ∙ sym q } }
