use Rattle.std.proofs.Common.{rules}
use Rattle.std.proofs.Common.{◌∙◌}
use Rattle.std.proofs.lemmas.List.{length-set}
use Rattle.planfile.proofs.Spares.{spare_more}
use Rattle.planfile.proofs.spans.Windows.push.Goals as goal

pub invariant_of-self-clause-few : goal.invariant_of-self-clause-few
invariant_of-self-clause-few c = search rules

pub invariant_of-self-clause-full : goal.invariant_of-self-clause-full
invariant_of-self-clause-full c = length-set _ c.args.self.now.count c.args.w ∙ c.args.self.now.full

pub invariant_of-self-clause-spare : goal.invariant_of-self-clause-spare
invariant_of-self-clause-spare c = spare_more c.args.self.now.count c.args.self.now.list c.args.w c.args.self.now.spare
