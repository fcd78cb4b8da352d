use Rattle.std.proofs.Common.{◌-◌, refl}
use Rattle.charts.proofs.Meanings.{column_arity}
use Rattle.charts.proofs.laws.columns_lawful.Goals as goal

pub returns : goal.returns
returns g c = λ s d p. let ch = g.C.Chart in column_arity ch.arity ch.column ch.next ch.laws (ch.arity s - d) s d p refl
