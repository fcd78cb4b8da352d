use Rattle.std.proofs.Common.{ℕ, false, ◌≡◌, ◌<◌, get_or, subst, List}
use Rattle.frames.specs.Reading.{left}
use Rattle.rows.specs.Rows.{items}
use Rattle.bitpages.specs.Table.{entry_at}
use Rattle.bitpages.proofs.Tables.{filled}
use Rattle.bitpages.proofs.loading.read_table.Goals as goal

pub returns : goal.returns
returns c =
    let r = c.in_ok-page.ensures in
    let each = subst (λ (ds : List ℕ). (i : ℕ) → i < 4096 → get_or c.unpack.new.table i false ≡ entry_at ds i) c.as_slice.ensures.value c.unpack.ensures in
    (r.0, r.1, filled r.0 c.in_ok-page.page.arity.n (left c.args.reader.now) (items c.in_ok-page.page.bytes) (left c.read_page.new.reader) c.args.reader.now.line c.read_page.new.reader.line c.unpack.new.table r.1 r.2 c.unpack.array_long each)
