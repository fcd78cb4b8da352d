use Rattle.std.proofs.Common.{length, ◌≡◌, ℕ, get_or, ap, ◌∙◌, arith}
use Rattle.std.proofs.lemmas.List.{get_or-take, length-set, length-take-le}
use Rattle.std.proofs.lemmas.List.Edits.{fill_by_more}
use Rattle.rows.specs.Rows.{items}
use Rattle.nodes.specs.NodeCharts.{seen}
use Rattle.nodes.proofs.Charting.{code_room}
use Rattle.nodes.proofs.recode.leaves_of.Goals as goal

pub bounds-leaves-q : goal.bounds-leaves-q
bounds-leaves-q c =
    let r = c.args.recoding.now in
    let w = c.power.ensures.within (omega (arith, c.requires.few)) in
    omega (arith, code_room r.codes c.requires.few, length-take-le c.power.result r.class_of.now (omega (arith, c.requires.coded)))

pub loop-q-preserved : goal.loop-q-preserved
loop-q-preserved c =
    let s = c.args.chart.now in
    let r = c.args.recoding.now in
    let q = c.loop-q.q in
    let w = c.power.ensures.within (omega (arith, c.requires.few)) in
    let room = code_room r.codes c.requires.few in
    let k = length-take-le c.power.result r.class_of.now (omega (arith, c.requires.coded)) in
    let f : ℕ → ℕ = λ z. seen (items s.nodes) (length (items s.nodes)) r.bound (get_or r.places.now z 0) in
    let e : c.number.result ≡ f (get_or r.class_of.now q 0) = c.number.ensures ∙ ap f (get_or-take c.power.result r.class_of.now q 0 (omega arith)) in
    let inv = c.loop-q.invariant in
    rw e (fill_by_more (λ x. f (get_or r.class_of.now x 0)) c.loop-q.leaves q 0 (omega (arith, inv.1)) inv.0, length-set c.loop-q.leaves q (f (get_or r.class_of.now q 0)) ∙ inv.1)
