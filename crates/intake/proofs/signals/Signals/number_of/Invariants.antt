use Rattle.std.proofs.Common.{◌≡◌, false, map, take, slice_index_or}
use Rattle.families.specs.Tables.{assignment}
use Rattle.intake.specs.Networks.{pin_value}
use Rattle.intake.proofs.signals.Signals.number_of.Given as goal

abbrev pub invariant-loop-signal : goal.invariant-loop-signal
invariant-loop-signal l =
    (l.number ≡ assignment (map (λ s. slice_index_or l.self s false) (take l.signal-index l.signals)))
    × (l.number ≡ assignment (map (pin_value l.self) (take l.signal-index l.signals)))
