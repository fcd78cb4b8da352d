use Rattle.std.proofs.Common.{sym, ap, subst, arith}
use Rattle.functions.specs.Functions.{Fn, exchanged}
use Rattle.nodes.specs.NodeCharts.{place_column, Drawn}
use Rattle.nodes.proofs.Charting.{whole_is, became}
use Rattle.nodes.proofs.diagrams.NodeChartChart.swap.Goals as goal

pub returns : goal.returns
returns c =
    let s = c.args.self.now in
    let t = c.in_ok-self.field-0 in
    let e = ap (exchanged c.args.p) (sym (whole_is s)) in
    (omega arith, became s t s.arity (exchanged c.args.p (place_column s 0 s.root)) (subst (λ (f : Fn). Drawn s.arity f t) e c.in_ok-self.ensures))
