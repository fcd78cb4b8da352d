use Rattle.frames.specs.Outcome.{reading}
use Rattle.frames.specs.Reading.{left}
use Rattle.frames.proofs.Lengths.{read-long}
use Rattle.frames.proofs.records.read_due.Goals as goal

pub returns-clause-long : goal.returns-clause-long
returns-clause-long c = read-long _ c.args.len c.args.reader.now.line (reading (left c.args.reader.now) c.args.reader.now.line) c.due.result c.due.ensures.answer
