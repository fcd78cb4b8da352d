use Rattle.std.proofs.Common.{sym, ◌∙◌}
use Rattle.rows.specs.Rows.{items}
use Rattle.nodes.proofs.Naming.{top-there, reached-top}
use Rattle.nodes.proofs.draft.Draft.finish.Goals as goal

pub chart-requires : goal.chart-requires
chart-requires c =
    let d = c.args.self.now in
    let xs = items d.store.nodes in
    record {
      small = d.small;
      diagram = rw c.top.ensures (record { ordered = d.ordered; reduced = (d.proper, d.single); rooted = top-there xs c.args.one; reached = reached-top xs c.args.one (sym c.in_default.ensures) });
    }

pub returns : goal.returns
returns c = (sym c.in_default.ensures, record { arity = c.chart.ensures.arity; nodes = cc; root = c.chart.ensures.root ∙ c.top.ensures; means = cc })
