use Rattle.std.proofs.Common.{◌≡◌, ℕ, ◌+◌, ◌-◌, true, false, List, length, take, drop, IfSome, Some, Ok, Option, sym, ap, ◌∙◌, arith}
use Rattle.frames.specs.declared.frame.Frame.{Frame}
use Rattle.frames.specs.declared.kinds.Kind.TheVariants as kind
use Rattle.frames.specs.Outcome.{Outcome, body, frame, outcome}
use Rattle.frames.specs.Reading.{left}
use Rattle.frames.specs.Records.{due}
use Rattle.intake.specs.Page.{pinned}
use Rattle.intake.specs.Views.{Holds}
use Rattle.intake.proofs.Fields.{bad-pins, good-pins}
use Rattle.intake.proofs.records.read_cell.Goals as goal

-- the bytes of the frame that was read
module _ (o : Option Frame) (f : Frame) (bs : List ℕ) (some : o ≡ Some f) (is : bs ≡ body f) where
  framed : (d : Outcome) → outcome (Ok o) ≡ d → frame bs ≡ d
  framed d e = ap frame is ∙ (rw some at e)

  sized : (n : ℕ) → IfSome o (λ f. length (body f) ≡ n) → length bs ≡ n
  sized n h = ap length is ∙ (rw some at h)

pub slice_bounds-split_at-end : goal.slice_bounds-split_at-end
slice_bounds-split_at-end c = omega (arith, sized c.in_ok-frame.field-0 c.in-Some.frame c.bytes.result.now c.in-Some.is c.bytes.ensures (c.args.shape.of.pins + c.args.shape.of.bytes + 2) c.in_ok-frame.ensures.long)

pub returns-then-not-are_pins : goal.returns-then-not-are_pins
returns-then-not-are_pins c =
    let s = c.args.shape.of in
    let bs = c.bytes.result.now in
    let xs = left c.args.reader.now in
    let line = c.args.reader.now.line in
    let e = c.in_ok-frame.ensures in
    let is = framed c.in_ok-frame.field-0 c.in-Some.frame bs c.in-Some.is c.bytes.ensures (due kind.Cell (s.pins + s.bytes + 2) xs line) e.answer in
    let long = sized c.in_ok-frame.field-0 c.in-Some.frame bs c.in-Some.is c.bytes.ensures (s.pins + s.bytes + 2) e.long in
    let wrong : pinned s.inputs c.args.before true (take s.pins (take (s.pins + s.bytes + 2 - 1 - 1) (drop 1 bs))) ≡ false = ap (pinned s.inputs c.args.before true) (sym c.split_at.ensures.front) ∙ sym c.are_pins.ensures ∙ c.if-not-are_pins.true in
    record {
      answer = rw c.line-line.ensures (bad-pins s.inputs s.pins s.bytes c.args.before line (s.pins + s.bytes + 2 - 1 - 1) bs (due kind.Cell (s.pins + s.bytes + 2) xs line) is (omega arith) long wrong);
      moved = e.moved;
    }

pub returns : goal.returns
returns c =
    let s = c.args.shape.of in
    let bs = c.bytes.result.now in
    let xs = left c.args.reader.now in
    let line = c.args.reader.now.line in
    let e = c.in_ok-frame.ensures in
    let is = framed c.in_ok-frame.field-0 c.in-Some.frame bs c.in-Some.is c.bytes.ensures (due kind.Cell (s.pins + s.bytes + 2) xs line) e.answer in
    let long = sized c.in_ok-frame.field-0 c.in-Some.frame bs c.in-Some.is c.bytes.ensures (s.pins + s.bytes + 2) e.long in
    let fields = take (s.pins + s.bytes + 2 - 1 - 1) (drop 1 bs) in
    let right : pinned s.inputs c.args.before true (take s.pins (take (s.pins + s.bytes + 2 - 1 - 1) (drop 1 bs))) ≡ true = ap (pinned s.inputs c.args.before true) (sym c.split_at.ensures.front) ∙ sym c.are_pins.ensures ∙ c.if-not-are_pins.false in
    let held : Holds (take s.pins fields) (drop s.pins fields) c.new.result = rw (sym c.split_at.ensures.front, sym c.split_at.ensures.back) c.new.ensures in
    record {
      answer = good-pins s.inputs s.pins s.bytes c.args.before line (s.pins + s.bytes + 2 - 1 - 1) bs (due kind.Cell (s.pins + s.bytes + 2) xs line) is (omega arith) long c.new.result right held;
      moved = e.moved;
    }
