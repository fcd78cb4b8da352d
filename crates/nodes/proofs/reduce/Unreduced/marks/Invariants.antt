use Rattle.std.specs.Iterator.Adapters.{enumerate_source, enumerate_count, rev_source}
use Rattle.std.specs.Slice.Iter.{iter_rest}
use Rattle.nodes.proofs.Marking.{Marking}
use Rattle.nodes.proofs.reduce.Unreduced.marks.Given as goal

abbrev pub invariant-loop-i : goal.invariant-loop-i
invariant-loop-i l = Marking l.self.nodes.now l.self.root (iter_rest (enumerate_source (rev_source l.i-iterator))) (enumerate_count (rev_source l.i-iterator)) l.marks
