use Rattle.std.proofs.Common.{◌<◌, ◌^◌}
use Rattle.families.specs.Tables.{Tabulated}
use Rattle.families.proofs.tables.tabulate.Given as goal

abbrev pub invariant-loop-e : goal.invariant-loop-e
invariant-loop-e g l = record { made : Tabulated (goal.F-post g l.entry) l.e l.table; below : l.table < 2 ^ l.e }
