use Rattle.model.proofs.Stands.{law_stands}
use Rattle.model.proofs.laws.verdicts_stand.Goals as goal

pub returns : goal.returns
returns c = law_stands
