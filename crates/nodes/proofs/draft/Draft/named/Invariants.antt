use Rattle.std.proofs.Common.{◌≡◌, ℕ, false, get_or, take}
use Rattle.rows.specs.Rows.{items}
use Rattle.nodes.specs.Drafts.{names}
use Rattle.nodes.proofs.draft.Draft.named.Given as goal

abbrev pub invariant-loop-node : goal.invariant-loop-node
invariant-loop-node l = (n : ℕ) → get_or l.marks n false ≡ names n (take l.node-index (items l.self.store.nodes))
