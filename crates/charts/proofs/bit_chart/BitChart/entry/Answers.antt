use Rattle.std.proofs.Common.{◌-◌, sym, arith}
use Rattle.charts.proofs.Stretches.{table_size, there-length, there-inside}
use Rattle.charts.proofs.bit_chart.BitChart.entry.Goals as goal

pub bounds-self-place : goal.bounds-self-place
bounds-self-place c =
    let s = c.args.self.now in
    let k = s.count - c.args.depth in
    let here = sym c.if-has.ensures in
    omega (arith, there-length s.count k c.args.place here, there-inside s.count k c.args.place here, table_size s.count s.small)
