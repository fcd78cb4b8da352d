use Rattle.std.proofs.Common.{◌-◌}
use Rattle.nodes.proofs.raw.Raw+MOST_RECODED.+crown.Given as goal

abbrev pub decreases-crown : goal.decreases-crown
decreases-crown l = l.j - l.var
