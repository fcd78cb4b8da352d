use Rattle.std.proofs.Common.{sym, ap, ◌∙◌, arith}
use Rattle.functions.specs.Functions.{bit}
use Rattle.nodes.specs.NodeLaws.{column_ends}
use Rattle.nodes.proofs.diagrams.NodeChartChart.end.Goals as goal

pub returns : goal.returns
returns c = let s = c.args.self.now in column_ends s s.arity c.args.place (omega arith) ∙ ap bit (sym c.is_one.ensures)
