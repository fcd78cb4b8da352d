use Rattle.std.proofs.Common.{rules, tests}
use Rattle.std.proofs.lemmas.Iterator.{YieldsList-from_slice}
use Rattle.std.proofs.lemmas.Iterator.Search.{position_from_yields_List}
use Rattle.functions.specs.Classes.{same_fn}
use Rattle.charts.proofs.ClassLists.{found}
use Rattle.charts.proofs.class_list.find.Goals as goal

pub returns : goal.returns
returns g c =
    let mean = g.C.Chart.column c.args.chart.now c.args.depth in
    let place = c.args.place in
    let places = c.args.places.now in
    found mean place places c.position.result
    (position_from_yields_List (λ x. same_fn (mean x) (mean place)) _ _ c.position.result c.position.ensures.ran (YieldsList-from_slice places cc) (λ x b q k. search (rules, tests)))
