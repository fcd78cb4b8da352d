-- The refusals of a chart as those of a design.
use Rattle.charts.specs.declared.refusal.ChartRefusal.{ChartRefusal}
use Rattle.charts.specs.declared.refusal.ChartRefusal.TheVariants as chart
use Rattle.mapping.specs.declared.refusal.Refusal.{Refusal}
use Rattle.mapping.specs.declared.refusal.Refusal.TheVariants.{OutOfRange, DoesNotFit}

-- the refusal of a swap that the chart refused
abbrev pub of_swap : ChartRefusal → Refusal
of_swap chart.OutOfRange = OutOfRange
of_swap chart.DoesNotFit = DoesNotFit
