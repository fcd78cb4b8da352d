use Rattle.std.proofs.Common.{sym, arith}
use Rattle.nodes.specs.Drafts.{drafted}
use Rattle.nodes.proofs.Naming.{top-last}
use Rattle.nodes.proofs.draft.Draft.top.Goals as goal

pub returns-in_default : goal.returns-in_default
returns-in_default c = rw c.count.ensures.value (sym (top-last (drafted c.args.self.now) c.args.one (omega arith)))
