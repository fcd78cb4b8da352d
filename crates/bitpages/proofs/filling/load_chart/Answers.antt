use Rattle.charts.specs.BitCharts.{bit_function}
use Rattle.bitpages.proofs.Tables.{charted}
use Rattle.bitpages.proofs.filling.load_chart.Goals as goal

pub returns : goal.returns
returns c =
    let r = c.in_ok-n.ensures.loaded in
    let d = r.1 in
    (r.0, (d.0, d.1, charted d.0 c.in_ok-n.n c.load_table.new.table (bit_function c.chart_of.result) c.chart_of.ensures d.2.0 d.2.1))
