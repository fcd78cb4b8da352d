use Rattle.std.proofs.Common.{◌≡◌}
use Rattle.frames.specs.Reading.{left}
use Rattle.frames.specs.Records.{gone, anything}
use Rattle.frames.proofs.Pages.{ending-gone}
use Rattle.frames.proofs.records.read_end.Goals as goal

pub returns-in-None-clause-ended : goal.returns-in-None-clause-ended
returns-in-None-clause-ended c =
    let r = c.in_ok-read_any.ensures in
    let a = r.answer in
    let g : gone ≡ anything (left c.args.reader.now) c.args.reader.now.line = rw c.in-None.is at a in
    (tt {0}, ending-gone (left c.args.reader.now) c.args.reader.now.line c.read_any.new.reader.line g r.moved.line, tt {0})
