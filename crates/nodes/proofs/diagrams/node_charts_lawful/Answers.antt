use Rattle.nodes.proofs.Charting.{node_chart_laws}
use Rattle.nodes.proofs.diagrams.node_charts_lawful.Goals as goal

pub returns : goal.returns
returns c = node_chart_laws
