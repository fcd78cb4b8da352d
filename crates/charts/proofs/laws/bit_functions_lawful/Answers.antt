use Rattle.charts.proofs.Stretches.{bit_function_laws}
use Rattle.charts.proofs.laws.bit_functions_lawful.Goals as goal

pub returns : goal.returns
returns c = bit_function_laws
