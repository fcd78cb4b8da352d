use Rattle.std.proofs.Common.{◌≡◌, true, drop}
use Rattle.intake.specs.Page.{pinned}
use Rattle.intake.proofs.records.are_pins.Given as goal

abbrev pub invariant-loop-pin : goal.invariant-loop-pin
invariant-loop-pin l = pinned l.inputs l.before l.used (drop l.pin-index l.pins) ≡ pinned l.inputs l.before true l.pins
