use Rattle.model.proofs.Again.{solving_again}
use Rattle.model.proofs.laws.solving_again_stands.Goals as goal

pub returns : goal.returns
returns c = solving_again
