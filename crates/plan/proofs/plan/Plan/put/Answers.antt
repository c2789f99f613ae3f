use Rattle.std.proofs.Common.{refl}
use Rattle.benches.specs.Records.{records}
use Rattle.benches.specs.Halves.{hall}
use Rattle.plan.proofs.Changes.{put_left, put_right}
use Rattle.plan.proofs.plan.Plan.put.Goals as goal

pub returns-in-0 : goal.returns-in-0
returns-in-0 g c =
    let p = c.args.self.now in
    record {
      networks = record { left = refl; right = refl };
      plan = put_left (hall p.left) (hall p.right) (record { network = g.L.Network.meaning p.left.network; table = records c.put.new.self })
          p.state c.args.place.side c.args.place.bench c.args.row c.in-0.is refl c.put.ensures;
    }

pub returns-in-1 : goal.returns-in-1
returns-in-1 g c =
    let p = c.args.self.now in
    record {
      networks = record { left = refl; right = refl };
      plan = put_right (hall p.left) (hall p.right) (record { network = g.R.Network.meaning p.right.network; table = records c.put-in-1.new.self })
          p.state c.args.place.side c.args.place.bench c.args.row c.in-1.is refl c.put-in-1.ensures;
    }
