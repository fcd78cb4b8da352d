use Rattle.nodes.proofs.Unique.{diagram_laws}
use Rattle.nodes.proofs.diagrams.diagrams_lawful.Goals as goal

pub returns : goal.returns
returns c = diagram_laws
