use Rattle.std.proofs.Common.{◌≡◌, length}
use Rattle.charts.specs.ClassLists.{first_places, laid}
use Rattle.charts.specs.Walks.{reached}
use Rattle.charts.proofs.numbering.number_classes.Given as goal

abbrev pub invariant-loop-a : goal.invariant-loop-a
invariant-loop-a g l =
    let firsts = first_places (g.C.Chart.column l.chart l.b) (reached g.C.Chart l.chart l.b) l.a in
    (l.list.count ≡ length firsts)
    × (l.list.places.now ≡ laid firsts l.initial.list.places.now)
    × (l.list.places.ghost_name ≡ l.initial.list.places.ghost_name)
