use Rattle.std.proofs.Common.{◌+◌, ◌-◌, map, get_or, refl}
use Rattle.functions.specs.Functions.{recoded}
use Rattle.nodes.specs.NodeCharts.{place_column}
use Rattle.nodes.proofs.Charting.{became}
use Rattle.nodes.proofs.diagrams.NodeChartChart.recode.Goals as goal

pub returns : goal.returns
returns c =
    let s = c.args.self.now in
    let r = c.args.recoding.now in
    (c.if-not-in_range.ensures.0 refl, became s c.in_ok-self.field-0 (s.arity - r.bound + r.codes) (recoded r.codes (map (place_column s r.bound) r.places.now) (λ q. get_or r.class_of.now q 0)) c.in_ok-self.ensures)
