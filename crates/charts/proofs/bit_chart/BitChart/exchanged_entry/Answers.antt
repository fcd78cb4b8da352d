use Rattle.std.proofs.Common.{◌≡◌, ◌^◌, ap, ◌∙◌, arith}
use Rattle.charts.specs.Tables.{source_of}
use Rattle.charts.proofs.Stretches.{table_size}
use Rattle.charts.proofs.Exchanges.{source_below}
use Rattle.charts.proofs.bit_chart.BitChart.exchanged_entry.Goals as goal

pub bounds-self-source : goal.bounds-self-source
bounds-self-source c =
    let s = c.args.self.now in
    let small = s.small in
    let is : c.source.result ≡ source_of (2 ^ c.args.k) c.args.i = c.source.ensures ∙ ap (λ h. source_of h c.args.i) (c.power.ensures.within (omega arith)) in
    omega (arith, is, source_below s.count c.args.k c.args.i c.requires.two c.requires.inside, table_size s.count small)
