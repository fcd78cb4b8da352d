use Rattle.std.proofs.Common.{◌≡◌, ℕ, ◌-◌, ◌^◌, length, get_or, sym, ap, ◌∙◌, arith, rules}
use Rattle.std.proofs.lemmas.List.{length-take-le}
use Rattle.rows.specs.Rows.{items}
use Rattle.nodes.specs.NodeCharts.{seen}
use Rattle.nodes.proofs.Charting.{code_room, coded, ready, recoded_is}
use Rattle.nodes.proofs.recode.redrawn.Goals as goal

pub slice_bounds-leaves-end : goal.slice_bounds-leaves-end
slice_bounds-leaves-end c =
    let len : length c.leaves_of-leaves.result ≡ 16 = search rules in
    let w = c.power.ensures.within (omega (arith, c.requires.few)) in
    omega (arith, code_room c.args.recoding.now.codes c.requires.few)

pub slice_bounds-crown-end : goal.slice_bounds-crown-end
slice_bounds-crown-end c =
    let len : length c.leaves_of-leaves.result ≡ 16 = search rules in
    let w = c.power.ensures.within (omega (arith, c.requires.few)) in
    let room = code_room c.args.recoding.now.codes c.requires.few in
    sym (length-take-le c.power.result c.leaves_of-leaves.result (omega arith))

pub crown-root-requires-clause-leaves : goal.crown-root-requires-clause-leaves
crown-root-requires-clause-leaves c =
    let s = c.args.chart.now in
    let r = c.args.recoding.now in
    let len : length c.leaves_of-leaves.result ≡ 16 = search rules in
    let f : ℕ → ℕ = λ z. seen (items s.nodes) (length (items s.nodes)) r.bound (get_or r.places.now z 0) in
    let l = coded f r.class_of.now r.codes c.power.result (c.power.ensures.within (omega (arith, c.requires.few))) c.requires.few c.leaves_of-leaves.result len c.leaves_of-leaves.ensures in
    let raw = c.shifted.new.raw in
    let e = c.shifted.ensures in
    let arity = e.arity ∙ c.new-raw.ensures.arity in
    rw arity (ready s r.bound r.codes r.places.now r.class_of.now c.requires _ l (items raw.nodes) e.shifts (length (items raw.nodes)) e.all e.none)

pub crown-root-requires-clause-width : goal.crown-root-requires-clause-width
crown-root-requires-clause-width c =
    let len : length c.leaves_of-leaves.result ≡ 16 = search rules in
    let w = c.power.ensures.within (omega (arith, c.requires.few)) in
    let room = code_room c.args.recoding.now.codes c.requires.few in
    let z : c.args.recoding.now.codes ≡ c.args.recoding.now.codes - 0 = omega arith in
    length-take-le c.power.result c.leaves_of-leaves.result (omega arith) ∙ w ∙ ap (λ (q : ℕ). 2 ^ q) z

pub returns : goal.returns
returns c =
    let s = c.args.chart.now in
    let r = c.args.recoding.now in
    let len : length c.leaves_of-leaves.result ≡ 16 = search rules in
    let f : ℕ → ℕ = λ z. seen (items s.nodes) (length (items s.nodes)) r.bound (get_or r.places.now z 0) in
    let l = coded f r.class_of.now r.codes c.power.result (c.power.ensures.within (omega (arith, c.requires.few))) c.requires.few c.leaves_of-leaves.result len c.leaves_of-leaves.ensures in
    let raw = c.shifted.new.raw in
    let e = c.shifted.ensures in
    let arity = e.arity ∙ c.new-raw.ensures.arity in
    let top = c.crown-root.new.self in
    let t = rw arity at c.crown-root.ensures.top in
    let m = rw (c.crown-root.ensures.arity, arity) at c.reduced.ensures in
    rw (recoded_is s r.bound r.codes r.places.now r.class_of.now c.requires _ l (items raw.nodes) e.shifts (length (items raw.nodes)) e.all e.none (items top.nodes) (length (items top.nodes)) c.crown-root.result t) at m
