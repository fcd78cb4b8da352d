use Rattle.charts.specs.Walks.{chart_function}
use Rattle.design.proofs.Found.{found_there, found_class}
use Rattle.design.proofs.codes.class_at.Goals as goal

pub unwrap-requires : goal.unwrap-requires
unwrap-requires g c =
    let s = c.args.chart.now in
    let ps = c.args.places.now in
    found_there (g.C.Chart.column s c.args.b) c.args.b c.args.e (chart_function g.C.Chart s) c.walk.result ps c.walk.ensures.means c.requires.places c.find.result c.find.ensures c.requires.inside

pub returns : goal.returns
returns g c =
    let s = c.args.chart.now in
    let ps = c.args.places.now in
    found_class (g.C.Chart.column s c.args.b) c.args.b c.args.e (chart_function g.C.Chart s) c.walk.result ps c.walk.ensures.means c.requires.places c.find.result c.unwrap.result c.find.ensures c.unwrap.ensures
