use Rattle.std.proofs.Common.{◌≡◌, ℕ, ◌<◌, false, List, get_or, Ok, refl, subst}
use Rattle.std.proofs.lemmas.Result.{err_from_is_err_and}
use Rattle.frames.specs.Numbers.{page_numbers}
use Rattle.frames.specs.Pages.{page}
use Rattle.frames.specs.Reading.{left}
use Rattle.frames.proofs.Pages.{ended_page, ended_refused}
use Rattle.rows.specs.Rows.{items}
use Rattle.bitpages.specs.Page.{paged}
use Rattle.bitpages.specs.Table.{entry_at}
use Rattle.bitpages.proofs.Tables.{filled, loaded_text}
use Rattle.bitpages.proofs.loading.load_table.Goals as goal

pub returns-in_err-read_end-clause-loaded : goal.returns-in_err-read_end-clause-loaded
returns-in_err-read_end-clause-loaded c =
    let r = c.in_ok-page.ensures in
    let is = r.1 in
    let q : paged c.args.text.now 1 ≡ page r.0 (left c.read_page.new.reader) c.read_page.new.reader.line = rw (c.new-reader.ensures.rest, c.new-reader.ensures.first) at is in
    let p = err_from_is_err_and c.from_residual-in_err-read_end.result c.from_residual-in_err-read_end.ensures.1 in
    let e = c.in_err-read_end.field-0.0 in
    let l = ended_refused r.0 (left c.read_page.new.reader) c.read_page.new.reader.line q (page_numbers e) e c.in_err-read_end.ensures.ended in
    rw (p.1, p.2) (0, (l, refl))

pub returns-clause-loaded : goal.returns-clause-loaded
returns-clause-loaded c =
    let r = c.in_ok-page.ensures in
    let is = r.1 in
    let q : paged c.args.text.now 1 ≡ page r.0 (left c.read_page.new.reader) c.read_page.new.reader.line = rw (c.new-reader.ensures.rest, c.new-reader.ensures.first) at is in
    let e = c.in_ok-read_end.ensures.ended in
    let a = ended_page r.0 (left c.read_page.new.reader) c.read_page.new.reader.line q e.0 c.read_end.new.reader.line e.1 in
    let each = subst (λ (ds : List ℕ). (i : ℕ) → i < 4096 → get_or c.unpack.new.table i false ≡ entry_at ds i) c.as_slice.ensures.value c.unpack.ensures in
    let h = filled r.0 c.in_ok-page.page.arity.n c.args.text.now (items c.in_ok-page.page.bytes) (left c.read_page.new.reader) 1 c.read_page.new.reader.line c.unpack.new.table q r.2 c.unpack.array_long each in
    (c.read_end.new.reader.line, (r.0, a, h))

pub returns-clause-written : goal.returns-clause-written
returns-clause-written c = loaded_text c.args.text.now c.args.table.now c.unpack.new.table (Ok c.in_ok-page.page.arity.n) (returns-clause-loaded c)
