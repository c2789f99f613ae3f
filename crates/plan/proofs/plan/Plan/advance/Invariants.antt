use Rattle.std.proofs.Common.{◌-◌, ◌≤◌}
use Rattle.model.specs.Plans.{Rounds}
use Rattle.plan.specs.Models.{model}
use Rattle.plan.specs.Standing.{SameNetworks}
use Rattle.plan.proofs.plan.Plan.advance.Given as goal

abbrev pub invariant-rounds : goal.invariant-rounds
invariant-rounds g l = (l.made ≤ l.grant) × Rounds l.made (model l.initial.self) (model l.self) × SameNetworks l.initial.self l.self

abbrev pub decreases-rounds : goal.decreases-rounds
decreases-rounds g l = l.grant - l.made
