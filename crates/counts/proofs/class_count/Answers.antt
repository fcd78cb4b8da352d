use Rattle.std.proofs.Common.{◌∙◌, arith}
use Rattle.counts.proofs.Widths.{counted}
use Rattle.counts.proofs.class_count.Goals as goal

pub returns : goal.returns
returns g c = counted g.C.Chart c.args.chart.now c.args.b _ _ c.number_classes.result (c.as_mut_slice.ensures.len ∙ c.in_ok-strip.ensures.len) (omega arith) c.number_classes.ensures
