use Rattle.charts.proofs.Inversions.{same-inverted}
use Rattle.charts.proofs.inverting.InvertingChart.same.Goals as goal

pub returns : goal.returns
returns g c =
    let column = g.C.Chart.column c.args.self.now.below c.args.depth in
    same-inverted c.same.result (column c.args.a) (column c.args.b) c.same.ensures
