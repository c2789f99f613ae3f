use Rattle.std.proofs.Common.{refl}
use Rattle.benches.specs.Records.{records}
use Rattle.plan.proofs.Changes.{restarted}
use Rattle.plan.proofs.plan.Plan.restart.Goals as goal

pub returns : goal.returns
returns g c =
    let p = c.args.self.now in
    record {
      networks = record { left = refl; right = refl };
      plan = restarted (g.L.Network.meaning p.left.network) (g.R.Network.meaning p.right.network) (records p.left.benches) (records p.right.benches)
          (records c.renew.new.self) (records c.renew-2.new.self) p.state c.renew.ensures c.renew-2.ensures;
    }
