use Rattle.std.proofs.Common.{◌+◌, ◌<◌, sym, subst, arith}
use Rattle.rows.specs.Rows.{items}
use Rattle.nodes.specs.declared.node.Node.{Node}
use Rattle.nodes.proofs.Indexes.{at-index}
use Rattle.nodes.proofs.exchange.read.Goals as goal

pub returns : goal.returns
returns c =
    let e = at-index (items c.args.chart.now.nodes) c.args.i in
    let p = c.args.chart.now.ordered (c.args.i + 2) (omega arith) (omega arith) in
    let P : Node → Type 0 = λ y. y.low < c.args.i + 2 in
    let Q : Node → Type 0 = λ y. y.high < c.args.i + 2 in
    rw c.as_slice.ensures.value (record { is = sym e; low = subst P e p.1; high = subst Q e p.2 })
