use Rattle.std.proofs.Common.{◌≡◌, take}
use Rattle.bitpages.specs.Table.{byte_of}
use Rattle.bitpages.proofs.writing.byte_of.Given as goal

abbrev pub invariant-loop-j : goal.invariant-loop-j
invariant-loop-j l = l.byte ≡ byte_of (take l.j l.eight)
