use Rattle.std.proofs.Common.{refl}
use Rattle.nodes.specs.Diagrams.{mean}
use Rattle.nodes.proofs.node_chart.NodeChart.empty.Goals as goal

pub returns : goal.returns
unfolding mean
returns c = refl
