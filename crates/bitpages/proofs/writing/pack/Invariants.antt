use Rattle.std.proofs.Common.{◌≡◌, ℕ, ◌+◌, ◌*◌, ◌≤◌, map, length, drop}
use Rattle.rows.specs.Rows.{items}
use Rattle.bitpages.specs.Table.{parts, byte_of}
use Rattle.bitpages.proofs.writing.pack.Given as goal

abbrev pub invariant-loop-eight : goal.invariant-loop-eight
invariant-loop-eight l =
    (goal.iterator-loop-eight).can_next l.eight-iterator
    × (goal.iterator-loop-eight).is_finite l.eight-iterator
    × (l.eight-iterator.size ≡ 8)
    × (k : ℕ) × (l.eight-iterator.rest.now ≡ drop (k * 8) l.table)
    × (8 * k ≤ length l.table + 7)
    × (items l.bytes ≡ map byte_of (parts 8 k l.table))
