use Rattle.std.proofs.Common.{◌≡◌, ◌*◌, [], length}
use Rattle.frames.specs.Reading.{left}
use Rattle.rows.specs.Rows.{items}
use Rattle.bitpages.specs.Page.{shares}
use Rattle.bitpages.specs.Table.{share, count}
use Rattle.bitpages.proofs.Shares.{Left}
use Rattle.bitpages.proofs.loading.read_bytes.Given as goal

abbrev pub invariant-loop-i : goal.invariant-loop-i
invariant-loop-i l =
    (length (items l.bytes) ≡ l._i * share l.arity.n)
    × Left l.arity.n (length (items l.bytes)) (items l.bytes) (left l.reader) l.reader.line (shares l.arity.n (count l.arity.n) [] (left l.initial.reader) l.initial.reader.line)
