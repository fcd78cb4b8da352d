use Rattle.std.proofs.Common.{sym, refl, ◌∙◌}
use Rattle.std.proofs.lemmas.List.{drop_all}
use Rattle.intake.proofs.Pins.{pin_unused, pin-signal, pin_late, pin_strange}
use Rattle.intake.proofs.records.are_pins.Goals as goal
use Rattle.intake.proofs.records.are_pins.Goals.{then-pin, else-pin+else-not-used+else-not-is_signal, then-not-used-via-then-not-used, then-not-used-via-else-not-used+then-not-is_signal}

pub returns-then-not-used : goal.returns-then-not-used
returns-then-not-used c =
    elim c.then-not-used.branch [
      | then-not-used-via-then-not-used w ↦ sym (pin_late c.args.inputs c.args.before c.loop-pin.used c.args.pins.now c.loop-pin.pin-index _ c.loop-pin-test.true refl c.if-pin.false w.if-not-used.true) ∙ c.loop-pin.invariant
      | then-not-used-via-else-not-used+then-not-is_signal w ↦ sym (pin_strange c.args.inputs c.args.before c.loop-pin.used c.args.pins.now c.loop-pin.pin-index _ c.loop-pin-test.true refl c.if-pin.false (sym w.is_signal.ensures ∙ w.if-not-is_signal.true)) ∙ c.loop-pin.invariant
    ]

pub loop-pin-preserved : goal.loop-pin-preserved
loop-pin-preserved c =
    elim c.if-pin.branch [
      | then-pin w ↦ rw w.used-is (pin_unused c.args.inputs c.args.before c.loop-pin.used c.args.pins.now c.loop-pin.pin-index _ c.loop-pin-test.true refl w.if-pin.true ∙ c.loop-pin.invariant)
      | else-pin+else-not-used+else-not-is_signal w ↦ rw (w.used-is ∙ w.if-not-used.false) (pin-signal c.args.inputs c.args.before c.loop-pin.used c.args.pins.now c.loop-pin.pin-index _ c.loop-pin-test.true refl w.if-pin.false w.if-not-used.false (sym w.is_signal.ensures ∙ w.if-not-is_signal.false) ∙ c.loop-pin.invariant)
    ]

pub returns : goal.returns
returns c =
    let e = c.loop-pin.invariant in
    rw (drop_all c.loop-pin.pin-index c.args.pins.now c.loop-pin-test.false) at e
