use Rattle.intake.proofs.Pages.{intake_laws}
use Rattle.intake.proofs.network.Network.load.Goals as goal

pub returns : goal.returns
returns g c =
    let f = c.args.self.now.family in
    let laws = g.F.CellFamily.laws in
    record {
      loaded = c.fill.ensures.loaded;
      family = c.fill.ensures.family;
      laws = intake_laws (g.F.CellFamily.number f) (g.F.CellFamily.pins f) (g.F.CellFamily.size f) (laws.numbered f) (laws.few_pins f) (laws.few_bytes f);
    }
