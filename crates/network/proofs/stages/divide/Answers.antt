use Rattle.std.proofs.Common.{rules}
use Rattle.scale.specs.Algebra.{quotient_of}
use Rattle.network.specs.Lists.{at}
use Rattle.network.specs.Kinds.{coefficient_at}
use Rattle.network.specs.ListsLemmas.{listed_all, listed_more}
use Rattle.network.proofs.stages.divide.Goals as goal

pub loop-i-preserved : goal.loop-i-preserved
loop-i-preserved g c =
    listed_more (λ k. quotient_of g.S.Scale.algebra (coefficient_at c.args.coefficients.now k) (at c.args.limits.now k)) c.loop-i.out c.loop-i.i _
    (search rules) c.loop-i.invariant (search rules)

pub returns : goal.returns
returns g c = listed_all _ c.loop-i.out _ (search rules) (λ k h. c.loop-i.invariant k (search rules))
