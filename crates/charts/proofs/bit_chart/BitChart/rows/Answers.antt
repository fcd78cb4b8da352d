use Rattle.std.proofs.Common.{rules, arith}
use Rattle.charts.proofs.bit_chart.BitChart.rows.Goals as goal

pub returns : goal.returns
returns c = record { long = c.filled.ensures.long; each = λ i l. let h = c.filled.ensures.each i (omega arith) in search rules }
