use Rattle.std.proofs.Common.{◌≡◌, ℕ, ◌<◌, false, length, get_or}
use Rattle.bitpages.specs.Table.{entry_at}
use Rattle.bitpages.proofs.loading.unpack.Given as goal

abbrev pub invariant-loop-i : goal.invariant-loop-i
invariant-loop-i l = (length l.table ≡ 4096) × ((k : ℕ) → k < l.i-counter → get_or l.table k false ≡ entry_at l.bytes k)
