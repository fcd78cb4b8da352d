use Rattle.std.proofs.Common.{refl, arith}
use Rattle.charts.proofs.Exchanges.{exchanged-means, exchanged-fits}
use Rattle.charts.proofs.bit_chart.BitChartChart.swap.Goals as goal

pub returns : goal.returns
returns c =
    let s = c.args.self.now in
    let table = c.exchanged-table in (
      omega arith,
      record {
        fitted = exchanged-fits s.count c.args.p s.table table.result (omega arith) table.ensures 12 s.small;
        meaning = exchanged-means s.count c.args.p s.table table.result (omega arith) table.ensures;
        counted = refl;
        fitting = λ f. (λ h. h, λ h. h);
      },
    )
