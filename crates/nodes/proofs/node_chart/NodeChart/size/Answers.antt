use Rattle.nodes.proofs.Charting.{chart_size}
use Rattle.nodes.proofs.node_chart.NodeChart.size.Goals as goal

pub returns : goal.returns
returns c = rw c.as_slice.ensures.value (chart_size c.args.self.now)
