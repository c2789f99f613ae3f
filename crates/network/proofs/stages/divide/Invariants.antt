use Rattle.std.proofs.Common.{◌≡◌, ℕ, ◌<◌}
use Rattle.scale.specs.Algebra.{quotient_of}
use Rattle.network.specs.Lists.{at}
use Rattle.network.specs.Kinds.{coefficient_at}
use Rattle.network.proofs.stages.divide.Given as goal

abbrev pub invariant-loop-i : goal.invariant-loop-i
invariant-loop-i g l = (k : ℕ) → k < l.i → at l.out k ≡ quotient_of g.S.Scale.algebra (coefficient_at l.coefficients k) (at l.limits k)
