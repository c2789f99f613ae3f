use Rattle.std.proofs.Common.{◌≡◌, ℕ, ◌<◌}
use Rattle.scale.specs.Algebra.{held}
use Rattle.network.specs.Lists.{at}
use Rattle.network.proofs.hold.hold.Given as goal

abbrev pub invariant-loop-i : goal.invariant-loop-i
invariant-loop-i g l = (k : ℕ) → k < l.i → at l.out k ≡ held g.S.Scale.algebra (at l.from k)
