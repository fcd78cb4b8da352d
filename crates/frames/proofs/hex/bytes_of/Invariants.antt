use Rattle.std.proofs.Common.{◌≡◌, ◌+◌, ◌*◌, length}
use Rattle.rows.specs.Rows.{items}
use Rattle.frames.specs.Text.{bytes_of}
use Rattle.frames.proofs.Digits.{onto}
use Rattle.frames.proofs.hex.bytes_of.Given as goal

-- the bytes so far, and what the digits that are left write, are what all the digits write
abbrev pub invariant-loop-pair : goal.invariant-loop-pair
invariant-loop-pair l =
    (l.pair-iterator.size ≡ 2) × (2 * length (items l.bytes) + length l.pair-iterator.rest.now ≡ length l.digits)
    × (onto (items l.bytes) (bytes_of l.pair-iterator.rest.now) ≡ bytes_of l.digits)
