use Rattle.std.proofs.Common.{[], length, get_or, sym, refl, ◌∙◌, inr, arith}
use Rattle.std.proofs.lemmas.Result.{MatchResult-from_err}
use Rattle.std.proofs.lemmas.Bool.{true≢false}
use Rattle.rows.specs.Rows.{items}
use Rattle.nodes.specs.Diagrams.{mean}
use Rattle.nodes.proofs.Rebuilding.{turn_first, turn_skip, turn_more, full_up, state-first, finish}
use Rattle.nodes.proofs.reduce.Unreduced.reduce.Goals as goal
use Rattle.nodes.proofs.reduce.Unreduced.reduce.Goals.{then-is_marked+in_ok-new, else-is_marked}

pub loop-i-init : goal.loop-i-init
loop-i-init c =
    let s = c.args.self.now in
    let t = c.new-store.result in
    (rw c.new-store.ensures (state-first s.arity (mean s.nodes.now s.arity 0 s.root) []), turn_first s.arity s.nodes.now c.marks-marks.result (items t.nodes) (length (items t.nodes)), refl)

pub returns-in_err-new : goal.returns-in_err-new
returns-in_err-new c =
    let s = c.args.self.now in
    let inv = c.loop-i.invariant in
    let e = c.in_err-new.ensures in
    let t = c.loop-i.store in
    let more = full_up s.arity s.nodes.now s.ordered s.root s.rooted c.marks-marks.result c.marks-marks.ensures c.loop-i.i c.loop-i-test.true (sym c.if-is_marked.ensures) c.loop-i.new (items t.nodes) (length (items t.nodes)) inv.0 inv.1 refl c.renamed.result c.renamed.ensures (e.2, e.3) in
    MatchResult-from_err c.from_residual.result _ _ c.from_residual.ensures.0 (λ y. omega (arith, more, e.1))

pub loop-i-preserved : goal.loop-i-preserved
loop-i-preserved c =
    let s = c.args.self.now in
    let inv = c.loop-i.invariant in
    let t = c.loop-i.store in
    elim c.if-is_marked.branch [
      | then-is_marked+in_ok-new w ↦
          rw (w.store-is, w.new-is) (turn_more s.arity s.nodes.now s.ordered s.root s.rooted c.marks-marks.result c.marks-marks.ensures c.loop-i.i c.loop-i-test.true (sym w.if-is_marked.ensures) c.loop-i.new t w.make.new.self w.in_ok-new.field-0 s.long inv.2 inv.0 inv.1 w.renamed.result w.renamed.ensures w.in_ok-new.ensures)
      | else-is_marked w ↦
          rw (w.store-is, w.new-is) (inv.0, turn_skip s.arity s.nodes.now c.marks-marks.result c.loop-i.i (items t.nodes) (length (items t.nodes)) c.loop-i.new inv.1 (λ q. true≢false (sym q ∙ sym w.if-is_marked.ensures)), inv.2)
    ]

pub chart-requires-clause-diagram : goal.chart-requires-clause-diagram
chart-requires-clause-diagram c =
    let s = c.args.self.now in
    let inv = c.loop-i.invariant in
    let there = inv.1 s.root (omega (arith, s.rooted, c.loop-i-test.false)) (inr c.marks-marks.ensures.top) in
    rw c.from.ensures (finish s.arity s.nodes.now s.ordered s.root s.rooted (items c.loop-i.store.nodes) (length (items c.loop-i.store.nodes)) (get_or c.loop-i.new s.root 0) inv.0 there).diagram

pub returns : goal.returns
returns c =
    let s = c.args.self.now in
    let inv = c.loop-i.invariant in
    let there = inv.1 s.root (omega (arith, s.rooted, c.loop-i-test.false)) (inr c.marks-marks.ensures.top) in
    let f = (finish s.arity s.nodes.now s.ordered s.root s.rooted (items c.loop-i.store.nodes) (length (items c.loop-i.store.nodes)) (get_or c.loop-i.new s.root 0) inv.0 there).means in
    record { counted = c.chart.ensures.arity; meaning = cc f }
