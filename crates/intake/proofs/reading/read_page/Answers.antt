use Rattle.std.proofs.Common.{◌≡◌, ℕ, List, [], Some, Ok, Option, refl, ◌∙◌, sym}
use Rattle.std.proofs.lemmas.Result.{err_from_is_err_and}
use Rattle.frames.specs.Numbers.{page_numbers}
use Rattle.frames.specs.Outcome.{past, line_after}
use Rattle.frames.specs.Pages.{page}
use Rattle.frames.specs.Reading.{left}
use Rattle.frames.specs.Records.{answered}
use Rattle.frames.proofs.Pages.{onward-some, ended_page, ended_refused}
use Rattle.intake.specs.Networks.{Network}
use Rattle.intake.specs.Page.{Headed, heading, cells_from, paged}
use Rattle.intake.specs.Views.{heading_of}
use Rattle.intake.specs.declared.records.Heading.{Heading}
use Rattle.intake.proofs.reading.read_page.Goals as goal

-- a page by its heading and its cells
page-by : (number K size : ℕ) (xs : List ℕ) (line : ℕ) (o : Option Heading) (h : Heading) (mid : List ℕ) (next : ℕ) (w : Network) (rest : List ℕ) (after : ℕ) → answered heading_of (Ok o) ≡ heading number xs line → o ≡ Some h → mid ≡ past xs → next ≡ line_after xs line → cells_from h.inputs K size h.count [] mid next ≡ page w rest after
    → paged number K size xs line ≡ page w rest after
page-by number K size xs line o h mid next w rest after a is p q e =
    let go = λ (h : Headed). cells_from h.inputs K size h.count [] (past xs) (line_after xs line) in
    sym (onward-some heading_of line go refl o h a is) ∙ (rw (p, q) at e)

pub returns-in_err-read_end : goal.returns-in_err-read_end
returns-in_err-read_end c =
    let w = c.in_ok-cells.ensures in
    let m = c.in_ok-read_heading.ensures.moved in
    let q = page-by c.args.number c.args.pins c.args.bytes (left c.args.reader.now) c.args.reader.now.line c.in_ok-read_heading.field-0 c.in_ok-heading.heading (left c.read_heading.new.reader) c.read_heading.new.reader.line w.0 (left c.read_cells.new.reader) c.read_cells.new.reader.line c.in_ok-read_heading.ensures.answer c.in_ok-heading.ensures.ok_part m.rest m.line w.1 in
    let p = err_from_is_err_and c.from_residual-in_err-read_end.result c.from_residual-in_err-read_end.ensures.1 in
    let e = c.in_err-read_end.field-0.0 in
    let l = ended_refused w.0 (left c.read_cells.new.reader) c.read_cells.new.reader.line q (page_numbers e) e c.in_err-read_end.ensures.ended in
    rw (p.1, p.2) (0, l)

pub returns : goal.returns
returns c =
    let w = c.in_ok-cells.ensures in
    let m = c.in_ok-read_heading.ensures.moved in
    let q = page-by c.args.number c.args.pins c.args.bytes (left c.args.reader.now) c.args.reader.now.line c.in_ok-read_heading.field-0 c.in_ok-heading.heading (left c.read_heading.new.reader) c.read_heading.new.reader.line w.0 (left c.read_cells.new.reader) c.read_cells.new.reader.line c.in_ok-read_heading.ensures.answer c.in_ok-heading.ensures.ok_part m.rest m.line w.1 in
    let e = c.in_ok-read_end.ensures.ended in
    (c.read_end.new.reader.line, (w.0, ended_page w.0 (left c.read_cells.new.reader) c.read_cells.new.reader.line q e.0 c.read_end.new.reader.line e.1, w.2))
