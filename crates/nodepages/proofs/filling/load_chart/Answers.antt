use Rattle.std.proofs.Common.{◌≡◌, refl}
use Rattle.std.proofs.lemmas.Result.{err_from_is_err_and}
use Rattle.frames.specs.Numbers.{page_numbers}
use Rattle.frames.specs.Pages.{page}
use Rattle.frames.specs.Reading.{left}
use Rattle.frames.proofs.Pages.{ended_page, ended_refused}
use Rattle.nodepages.specs.Page.{paged}
use Rattle.nodepages.proofs.filling.load_chart.Goals as goal

pub returns-in_err-read_end : goal.returns-in_err-read_end
returns-in_err-read_end c =
    let r = c.in_ok-loaded.ensures in
    let is = r.1 in
    let q : paged c.args.text.now 1 ≡ page r.0 (left c.read_page.new.reader) c.read_page.new.reader.line = rw (c.new-reader.ensures.rest, c.new-reader.ensures.first) at is in
    let p = err_from_is_err_and c.from_residual-in_err-read_end.result c.from_residual-in_err-read_end.ensures.1 in
    let e = c.in_err-read_end.field-0.0 in
    let l = ended_refused r.0 (left c.read_page.new.reader) c.read_page.new.reader.line q (page_numbers e) e c.in_err-read_end.ensures.ended in
    rw (p.1, p.2) (0, (l, refl))

pub returns : goal.returns
returns c =
    let r = c.in_ok-loaded.ensures in
    let is = r.1 in
    let q : paged c.args.text.now 1 ≡ page r.0 (left c.read_page.new.reader) c.read_page.new.reader.line = rw (c.new-reader.ensures.rest, c.new-reader.ensures.first) at is in
    let e = c.in_ok-read_end.ensures.ended in
    (c.read_end.new.reader.line, (r.0, ended_page r.0 (left c.read_page.new.reader) c.read_page.new.reader.line q e.0 c.read_end.new.reader.line e.1, r.2))
