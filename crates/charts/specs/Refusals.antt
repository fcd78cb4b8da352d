-- The numbers of a chart's refusals.
use Rattle.std.specs.Prelude.{ℕ}
use Rattle.charts.specs.declared.refusal.ChartRefusal.{ChartRefusal}
use Rattle.charts.specs.declared.refusal.ChartRefusal.TheVariants.{OutOfRange, DoesNotFit}

-- 11 for a call that is out of range, 20 for a function that does not fit
abbrev pub refusal_number : ChartRefusal → ℕ
refusal_number OutOfRange = 11
refusal_number DoesNotFit = 20
