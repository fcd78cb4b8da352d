use Rattle.std.proofs.Common.{◌<◌, arith}
use Rattle.families.proofs.TableEntries.{tabulated_more, next_below}
use Rattle.families.proofs.tables.tabulate.Goals as goal

pub loop-e-preserved : goal.loop-e-preserved
loop-e-preserved g c =
    let few : c.loop-e.e < 32 = omega arith in
    record {
      made = tabulated_more _ c.loop-e.e c.loop-e.table c.from.result c.entry.result c.loop-e.invariant.made c.from.ensures few c.entry.ensures;
      below = next_below c.loop-e.e c.loop-e.table c.from.result c.entry.result c.loop-e.invariant.below c.from.ensures few;
    }
