use Rattle.std.proofs.Common.{◌∙◌}
use Rattle.nodes.proofs.Charting.{same_seen}
use Rattle.nodes.proofs.diagrams.NodeChartChart.same.Goals as goal

pub returns : goal.returns
returns c = c.alike.ensures ∙ same_seen c.args.self.now c.args.depth c.args.a c.args.b
