use Rattle.benches.specs.Halves.{hall}
use Rattle.plan.proofs.Verdicts.{round_made}
use Rattle.plan.proofs.plan.Plan.round.Goals as goal

pub returns : goal.returns
returns g c =
    let p = c.args.self.now in
    let q = c.cut_both-lefts_rest.new.self in
    let rests = c.cut_both-lefts_rest.result in
    let cuts = c.cut_both-lefts_rest.ensures in
    record {
      networks = record { left = cuts.networks.left; right = cuts.networks.right };
      plan = round_made (hall p.left) (hall p.right) (hall q.left) (hall q.right) p.state c.verdict_of-self.result
          rests.0 rests.1 c.is_fallen-left_fell.result c.is_fallen-right_fell.result p.level
          cuts.right cuts.left c.is_fallen-left_fell.ensures c.is_fallen-right_fell.ensures c.verdict_of-self.ensures;
    }
