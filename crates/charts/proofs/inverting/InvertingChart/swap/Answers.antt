use Rattle.std.proofs.Common.{◌+◌, ◌<◌}
use Rattle.functions.specs.Functions.{negated, exchanged}
use Rattle.functions.proofs.Negation.{exchanged_negated}
use Rattle.charts.specs.Changes.{whole}
use Rattle.charts.proofs.Inversions.{change_inverted}
use Rattle.charts.proofs.inverting.InvertingChart.swap.Goals as goal

pub returns : goal.returns
returns g c =
    let m = g.C.Chart in
    let s = c.args.self.now.below in
    let p = c.args.p in
    let f = whole m.column m.root s in
    change_inverted g.row.C-Place.Denot m.arity (whole m.column m.root) m.fits (p + 1 < m.arity s) (m.arity s) (exchanged p f) (exchanged p (negated f)) (λ _. exchanged_negated p f)
    s c.swap.new.self c.swap.result c.swap.ensures
