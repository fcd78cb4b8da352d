use Rattle.std.proofs.Common.{◌≡◌, ◌-◌, rules, refl, arith}
use Rattle.std.proofs.lemmas.Iterator.{cases_from_all, YieldsList-from_range}
use Rattle.charts.specs.Stretches.{entry_of}
use Rattle.charts.proofs.Stretches.{entries-search}
use Rattle.charts.proofs.bit_chart.BitChartChart.same.Goals as goal

pub returns : goal.returns
returns c =
    let s = c.args.self.now in
    let k = s.count - c.args.depth in
    let n = c.size.result in
    let e = entry_of s.count s.table k in
    entries-search s.count s.table c.args.depth k refl c.args.a c.args.b c.all.result n c.size.ensures.value
    (cases_from_all _ _ _ (λ i. e c.args.a i ≡ e c.args.b i) (λ i. e c.args.a i ≡ e c.args.b i → ⊥) c.all.ensures.ran (YieldsList-from_range 0 n n refl (omega arith)) (λ x q h. search rules) (λ x q h. search rules))
