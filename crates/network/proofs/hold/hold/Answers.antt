use Rattle.std.proofs.Common.{rules}
use Rattle.scale.specs.Algebra.{held}
use Rattle.network.specs.Lists.{at}
use Rattle.network.specs.ListsLemmas.{listed_all, listed_more}
use Rattle.network.proofs.hold.hold.Goals as goal

pub loop-i-preserved : goal.loop-i-preserved
loop-i-preserved g c = listed_more (λ k. held g.S.Scale.algebra (at c.args.from.now k)) c.loop-i.out c.loop-i.i _ (search rules) c.loop-i.invariant (search rules)

pub returns : goal.returns
returns g c = search (rules, listed_all)
