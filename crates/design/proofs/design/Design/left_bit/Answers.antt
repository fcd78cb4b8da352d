use Rattle.std.proofs.Common.{◌≡◌, ℕ, ◌<◌, false, get_or, take, sym, ap, ◌∙◌, subst, arith}
use Rattle.std.proofs.lemmas.List.{length-take, get_or-take}
use Rattle.functions.specs.Functions.{under}
use Rattle.mapping.specs.States.{values}
use Rattle.design.specs.Designs.{inverted, left_of}
use Rattle.functions.proofs.Values.{value_bit}
use Rattle.design.proofs.Walks.{stepped}
use Rattle.design.proofs.design.Design.left_bit.Goals as goal

pub loop-depth-preserved : goal.loop-depth-preserved
loop-depth-preserved g c =
    let d = c.args.self.now in
    let n = c.count.result in
    let m = g.C.Chart.laws.small c.args.self.now.chart.below in
    let inside : c.loop-depth.depth < c.count.result = omega (arith, length-take c.count.result c.args.self.now.live) in
    stepped (inverted g.C.Chart) d.chart (left_of g.C.Chart g.R.CodeRule g.F.CellFamily d) c.args.signals.now d.live c.loop-depth.depth c.loop-depth.place c.step-place.result c.value.result
    (omega (arith, c.count.ensures)) c.loop-depth.invariant (c.value.ensures.signal ∙ ap (λ i. get_or c.args.signals.now i false) (get_or-take n d.live c.loop-depth.depth 0 inside)) c.step-place.ensures

pub returns : goal.returns
returns g c =
    let ch = g.C.Chart in
    let d = c.args.self.now in
    let f = left_of ch g.R.CodeRule g.F.CellFamily d in
    let m = ch.arity d.chart.below in
    let T : ℕ → Type 0 = λ k. (inverted g.C.Chart).column c.args.self.now.chart k c.loop-depth.place ≡ under (left_of g.C.Chart g.R.CodeRule g.F.CellFamily c.args.self.now) (values c.args.signals.now (take k c.args.self.now.live)) in
    let e : c.loop-depth.depth ≡ g.C.Chart.arity c.args.self.now.chart.below = (let m = g.C.Chart.laws.small c.args.self.now.chart.below in omega (arith, c.count.ensures, length-take c.count.result c.args.self.now.live)) in
    sym (value_bit f (values c.args.signals.now (take m d.live)) c.end.result (sym (subst T e c.loop-depth.invariant) ∙ c.end.ensures))
