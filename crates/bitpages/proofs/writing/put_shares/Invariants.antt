use Rattle.std.proofs.Common.{◌≡◌, ℕ, ◌*◌, ◌≤◌, ◌++◌, map, drop}
use Rattle.frames.specs.Outcome.{body}
use Rattle.rows.specs.Rows.{items}
use Rattle.bitpages.specs.Table.{share, count, parts}
use Rattle.bitpages.specs.Written.{bits_frame}
use Rattle.bitpages.proofs.writing.put_shares.Given as goal

abbrev pub invariant-loop-part : goal.invariant-loop-part
invariant-loop-part l =
    (goal.iterator-loop-part).can_next l.part-iterator
    × (goal.iterator-loop-part).is_finite l.part-iterator
    × (l.part-iterator.size ≡ share l.fn.arity.n)
    × (k : ℕ) × (l.part-iterator.rest.now ≡ drop (k * share l.fn.arity.n) l.bytes)
    × (k ≤ count l.fn.arity.n)
    × (map body (items l.frames) ≡ map body (items l.initial.frames) ++ map bits_frame (parts (share l.fn.arity.n) k l.bytes))
