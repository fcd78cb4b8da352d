use Rattle.charts.specs.BitCharts.{bit_function}
use Rattle.bitpages.proofs.Tables.{charted}
use Rattle.bitpages.proofs.filling.read_chart.Goals as goal

pub returns : goal.returns
returns c =
    let r = c.in_ok-n.ensures in
    (r.0, r.1, charted r.0 c.in_ok-n.n c.read_table.new.table (bit_function c.chart_of.result) c.chart_of.ensures r.2.0 r.2.1)
