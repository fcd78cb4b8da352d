use Rattle.std.proofs.Common.{◌≡◌, ◌^◌, ◌<◌, ◌≤◌, length, arith, rules}
use Rattle.charts.specs.Walks.{chart_function, reached}
use Rattle.charts.specs.ClassLists.{first_places, laid}
use Rattle.charts.proofs.Meanings.{reached-means}
use Rattle.charts.proofs.ClassLists.{noted_more}
use Rattle.charts.proofs.Numberings.{numbered}
use Rattle.charts.proofs.numbering.number_classes.Goals as goal

pub loop-a-preserved : goal.loop-a-preserved
loop-a-preserved g c =
    let ch = g.C.Chart in
    let s = c.args.chart.now in
    let b = c.args.b in
    let inv = c.loop-a.invariant in
    let small : b ≤ 16 = omega (arith, ch.laws.small s, c.count.ensures) in
    let more : c.loop-a.a < length c.args.strip.now = omega (arith, c.power.ensures.within small, c.power-a-end.ensures.within small) in
    let next = noted_more (ch.column s b) (reached ch s b) c.loop-a.a c.loop-a.list.count c.note.new.self.count c.walk-place.result c.args.strip.now _ c.loop-a.list.places.now c.note.new.self.places.now c.note.result
    c.walk-place.ensures.place c.new-list.ensures.strip more inv.0 inv.1 c.note.ensures.noted in
    (next.0, next.1, cc)

pub returns : goal.returns
returns g c =
    let ch = g.C.Chart in
    let s = c.args.chart.now in
    let b = c.args.b in
    let firsts = first_places (ch.column s b) (reached ch s b) in
    let zs = c.new-list.result.places.now in
    let small : b ≤ 16 = omega (arith, ch.laws.small s, c.count.ensures) in
    let end : c.loop-a.a ≡ 2 ^ b = omega (arith, c.power-a-end.ensures.within small) in
    let inv : (c.loop-a.list.count ≡ length (firsts (2 ^ b))) × (c.loop-a.list.places.now ≡ laid (firsts (2 ^ b)) zs) = rw (← end) (c.loop-a.invariant.0, c.loop-a.invariant.1) in (
      record { bound = omega (arith, c.count.ensures); room = omega (arith, c.power.ensures.within small) },
      numbered (ch.column s b) (reached ch s b) b (chart_function ch s) (reached-means ch s b) c.size.result _ c.args.strip.now zs _ _ c.new-list.ensures.strip c.size.ensures inv.0 inv.1 (search rules),
    )
