use Rattle.std.proofs.Common.{length, ap, ◌∙◌, arith}
use Rattle.std.proofs.lemmas.List.{length_push}
use Rattle.rows.specs.Rows.{items}
use Rattle.nodes.proofs.Indexes.{smaller-children}
use Rattle.nodes.proofs.Swapping.{trios_more}
use Rattle.nodes.proofs.exchange.spread_out.Goals as goal

pub loop-i-preserved : goal.loop-i-preserved
loop-i-preserved c =
    let s = c.loop-i.raw in
    let x = c.push.ensures in
    let y = c.push-in-loop-i.ensures in
    let z = c.push-in-loop-i-2.ensures in
    let inv = c.loop-i.invariant in
    record {
      arity = z.arity ∙ y.arity ∙ x.arity ∙ inv.arity;
      count = omega (arith, inv.count, ap length x.nodes, ap length y.nodes, ap length z.nodes, length_push (items s.nodes) c.parted.result.a, length_push (items c.push.new.self.nodes) c.parted.result.b, length_push (items c.push-in-loop-i.new.self.nodes) c.parted.result.c);
      trios = trios_more (items c.args.chart.now.nodes) c.args.p c.loop-i.i (items s.nodes) (items c.push.new.self.nodes) (items c.push-in-loop-i.new.self.nodes) (items c.push-in-loop-i-2.new.self.nodes) c.parted.result.a c.parted.result.b c.parted.result.c inv.count x.nodes y.nodes z.nodes inv.trios c.parted.ensures;
    }

pub parted-requires-clause-low : goal.parted-requires-clause-low
parted-requires-clause-low c =
    let s = c.args.chart.now in
    rw c.as_slice-node-items.ensures.value (smaller-children s.arity (items s.nodes) c.loop-i.i s.ordered (omega (arith, ap length c.as_slice-node-items.ensures.value))).0

pub parted-requires-clause-high : goal.parted-requires-clause-high
parted-requires-clause-high c =
    let s = c.args.chart.now in
    rw c.as_slice-node-items.ensures.value (smaller-children s.arity (items s.nodes) c.loop-i.i s.ordered (omega (arith, ap length c.as_slice-node-items.ensures.value))).1
