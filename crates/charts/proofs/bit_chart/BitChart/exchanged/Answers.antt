use Rattle.std.proofs.Common.{◌≡◌, ◌-◌, rules, arith}
use Rattle.charts.proofs.bit_chart.BitChart.exchanged.Goals as goal

pub returns : goal.returns
returns c =
    let all : c.args.self.now.count - 0 ≡ c.args.self.now.count = omega arith in
    record { long = c.filled.ensures.long; each = λ i l. let h = c.filled.ensures.each i (omega (arith, rw all at c.size.ensures.value)) in search rules }
