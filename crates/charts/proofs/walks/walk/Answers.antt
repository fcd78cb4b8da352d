use Rattle.std.proofs.Common.{◌≡◌, ◌-◌, ◌≤◌, sym, ◌∙◌, inl, inr, arith}
use Rattle.std.proofs.lemmas.Bool.{cases_lt}
use Rattle.functions.specs.Words.{bits}
use Rattle.charts.specs.Walks.{reached}
use Rattle.charts.proofs.Meanings.{led-stays, reached-means}
use Rattle.charts.proofs.walks.walk.Goals as goal

pub returns : goal.returns
returns g c =
    let ch = g.C.Chart in
    let s = c.args.chart.now in
    let b = c.args.b in
    let d = c.loop-depth.depth in
    let is : c.loop-depth.place ≡ reached ch s b c.args.a = elim (cases_lt d b) [
      | inl l ↦
          let end : ch.arity s ≤ d = omega (arith, c.count.ensures) in
          sym (led-stays ch.arity ch.column ch.next ch.laws s d c.loop-depth.place (bits (b - d) c.args.a) end) ∙ c.loop-depth.invariant
      | inr l ↦ let end : b - d ≡ 0 = omega arith in rw end at c.loop-depth.invariant
    ] in
    record { place = is; means = rw is (reached-means ch s b c.args.a) }
