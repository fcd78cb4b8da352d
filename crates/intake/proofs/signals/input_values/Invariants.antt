use Rattle.std.proofs.Common.{◌≡◌, ℕ, ◌/◌, ◌%◌, ◌^◌, ◌<◌, false, nat_eq, get_or}
use Rattle.intake.proofs.signals.input_values.Given as goal

abbrev pub invariant-loop-i : goal.invariant-loop-i
invariant-loop-i l = (k : ℕ) → k < l.i → get_or l.value-items k false ≡ nat_eq (l.inputs / 2 ^ k % 2) 1
