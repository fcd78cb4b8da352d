use Rattle.std.proofs.Common.{ℕ, ◌+◌, ◌-◌, map, length, get_or}
use Rattle.functions.specs.Functions.{negated, recoded}
use Rattle.charts.specs.Changes.{whole, Recodable}
use Rattle.charts.proofs.Inversions.{change_inverted, recode_inverted}
use Rattle.charts.proofs.inverting.InvertingChart.recode.Goals as goal

pub returns : goal.returns
returns g c =
    let m = g.C.Chart in
    let s = c.args.self.now.below in
    let r = c.args.recoding.now in
    let places = r.places.now in
    let classes = r.class_of.now in
    let column = m.column s r.bound in
    let class : ℕ → ℕ = λ q. get_or classes q 0 in
    change_inverted g.row.C-Place.Denot m.arity (whole m.column m.root) m.fits (Recodable (m.arity s) r.bound r.codes (length places) classes) (m.arity s - r.bound + r.codes)
    (recoded r.codes (map column places) class) (recoded r.codes (map (λ p. negated (column p)) places) class) (recode_inverted column (m.arity s) r.bound r.codes places classes)
    s c.recode.new.self c.recode.result c.recode.ensures
