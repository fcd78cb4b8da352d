use Rattle.functions.proofs.Decomposition.{decomposition_theorem}
use Rattle.functions.proofs.decomposition_theorem.Goals as goal

pub returns : goal.returns
returns c = decomposition_theorem
