use Rattle.std.proofs.Common.{◌≡◌, ℕ, ◌+◌, [], ◌∷◌, ◌++◌, map, length, sym, ap, ◌∙◌, arith}
use Rattle.std.proofs.lemmas.List.{length_push, map_push}
use Rattle.frames.specs.Reading.{left}
use Rattle.frames.proofs.Pages.{onward-some, onward-none, onward-err}
use Rattle.intake.specs.Views.{listed, cell_of}
use Rattle.intake.proofs.Remaining.{then_cells, left-none, left-more, left-got}
use Rattle.intake.proofs.reading.read_cells.Goals as goal

pub returns-in_err-read_cell : goal.returns-in_err-read_cell
returns-in_err-read_cell c =
    let s = c.args.shape.of in
    let view = cell_of s.pins s.bytes in
    let m = left-more c.loop-before.invariant.2 (omega arith) in
    onward-err view c.loop-before.reader.line (then_cells s.inputs s.pins s.bytes m.0 (map view (listed c.loop-before.cells)) (left c.loop-before.reader) c.loop-before.reader.line) m.2 _ _ _ c.in_err-read_cell.field-0.0 c.from_residual.result c.in_err-read_cell.ensures.answer c.from_residual.ensures.1

pub returns-in_err-cell : goal.returns-in_err-cell
returns-in_err-cell c =
    let s = c.args.shape.of in
    let view = cell_of s.pins s.bytes in
    let m = left-more c.loop-before.invariant.2 (omega arith) in
    let v = c.in_err-cell.ensures.value in
    onward-none view c.loop-before.reader.line (then_cells s.inputs s.pins s.bytes m.0 (map view (listed c.loop-before.cells)) (left c.loop-before.reader) c.loop-before.reader.line) m.2 _ _ _ c.in_ok-read_cell.field-0 c.in_err-cell.field-0.0 c.from_residual-in_err-cell.result c.in_ok-read_cell.ensures.answer (rw c.line-line.ensures at v) c.from_residual-in_err-cell.ensures.1

pub loop-before-preserved : goal.loop-before-preserved
loop-before-preserved c =
    let s = c.args.shape.of in
    let view = cell_of s.pins s.bytes in
    let cell = c.in_ok-cell.cell in
    let m = left-more c.loop-before.invariant.2 (omega arith) in
    let e = c.in_ok-read_cell.ensures in
    let a = onward-some view c.loop-before.reader.line (then_cells s.inputs s.pins s.bytes m.0 (map view (listed c.loop-before.cells)) (left c.loop-before.reader) c.loop-before.reader.line) m.2 c.in_ok-read_cell.field-0 cell e.answer c.in_ok-cell.ensures.ok_part in
    let l = left-got c.loop-before.invariant.2 m.0 (view cell) (left c.read_cell.new.reader) c.read_cell.new.reader.line m.1 a e.moved.rest e.moved.line in
    let more : map (cell_of s.pins s.bytes) (listed c.push.new.self) ≡ map (cell_of s.pins s.bytes) (listed c.loop-before.cells) ++ (cell_of s.pins s.bytes c.in_ok-cell.cell ∷ []) = ap (map view) c.push.ensures.cells ∙ map_push view (listed c.loop-before.cells) cell in
    (ap length c.push.ensures.cells ∙ length_push (listed c.loop-before.cells) cell ∙ ap (λ n. n + 1) c.loop-before.invariant.0, c.push.ensures.inputs ∙ c.loop-before.invariant.1, rw more l)

pub returns : goal.returns
returns c =
    let s = c.args.shape.of in
    let i = c.loop-before.invariant in
    let cs = map (cell_of s.pins s.bytes) (listed c.loop-before.cells) in
    (record { inputs = s.inputs; cells = cs }, left-none i.2 (omega arith), ap (λ (n : ℕ). record { inputs = n; cells = cs }) (sym i.1))
