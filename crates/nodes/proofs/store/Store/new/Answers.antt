use Rattle.std.proofs.Common.{[]}
use Rattle.nodes.proofs.Indexes.{index-none}
use Rattle.nodes.proofs.store.Store.new.Goals as goal

pub invariant_of-result-clause-indexed : goal.invariant_of-result-clause-indexed
invariant_of-result-clause-indexed c = rw c.new-2.ensures (index-none [] 1024 1024)
