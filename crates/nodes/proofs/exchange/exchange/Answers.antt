use Rattle.std.proofs.Common.{length, ◌∙◌, arith, rules}
use Rattle.std.proofs.lemmas.Grind.{common_steps}
use Rattle.rows.specs.Rows.{items}
use Rattle.nodes.proofs.Swapping.{swapped}
use Rattle.nodes.proofs.exchange.exchange.Goals as goal

pub reduced-requires : goal.reduced-requires
reduced-requires c =
    let s = c.args.chart.now in
    let e = c.spread_out.ensures in
    let arity = e.arity ∙ c.new-raw.ensures.arity in
    let w = swapped s.arity (length (items s.nodes)) (items s.nodes) s.ordered c.args.p c.requires (items c.spread_out.new.raw.nodes) e.trios s.root s.rooted in
    (search rules, (grind (arith, common_steps), rw (arity, e.count) w.ordered))

pub returns : goal.returns
returns c =
    let s = c.args.chart.now in
    let e = c.spread_out.ensures in
    let arity = e.arity ∙ c.new-raw.ensures.arity in
    let w = swapped s.arity (length (items s.nodes)) (items s.nodes) s.ordered c.args.p c.requires (items c.spread_out.new.raw.nodes) e.trios s.root s.rooted in
    rw (arity, c.tripled.ensures, w.means) at c.reduced.ensures
