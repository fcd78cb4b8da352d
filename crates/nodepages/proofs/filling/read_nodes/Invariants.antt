use Rattle.std.proofs.Common.{◌≡◌, ◌-◌, [], length}
use Rattle.frames.specs.Reading.{left}
use Rattle.nodes.specs.Drafts.{drafted}
use Rattle.nodepages.specs.Page.{listed}
use Rattle.nodepages.proofs.filling.read_nodes.Given as goal

abbrev pub invariant-loop-i : goal.invariant-loop-i
invariant-loop-i l =
    (listed l.initial.draft.arity (l.count - l._i) (drafted l.draft) (left l.reader) l.reader.line ≡ listed l.initial.draft.arity l.count [] (left l.initial.reader) l.initial.reader.line)
    × (length (drafted l.draft) ≡ l._i)
    × (l.draft.arity ≡ l.initial.draft.arity)
