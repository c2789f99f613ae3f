use Rattle.std.proofs.Common.{refl}
use Rattle.benches.specs.Records.{records}
use Rattle.model.proofs.Accepted.{found_accepted}
use Rattle.plan.proofs.Founded.{founded, counted}
use Rattle.plan.proofs.plan.Plan.found.Goals as goal

pub invariant_of-result : goal.invariant_of-result
invariant_of-result g c =
    let m = g.L.Network.meaning c.args.left in
    let a = found_accepted g.L.Over.Scale.algebra g.met.L.Over.Scale.lawful m (g.R.Network.meaning c.args.right) c.args.lefts.now c.args.rights.now c.in_default.ensures in
    record { one_each = counted m c.args.lefts.now (records c.fresh.result) (g.met.L.Network.lawful c.args.left).benches_size.few a.lefts c.fresh.ensures }

pub invariant_of-result-2 : goal.invariant_of-result-2
invariant_of-result-2 g c =
    let m = g.R.Network.meaning c.args.right in
    let a = found_accepted g.L.Over.Scale.algebra g.met.L.Over.Scale.lawful (g.L.Network.meaning c.args.left) m c.args.lefts.now c.args.rights.now c.in_default.ensures in
    record { one_each = counted m c.args.rights.now (records c.fresh-2.result) (g.met.R.Network.lawful c.args.right).benches_size.few a.rights c.fresh-2.ensures }

pub returns : goal.returns
returns g c = (
  founded g.L.Over.Scale.algebra g.met.L.Over.Scale.lawful (g.L.Network.meaning c.args.left) (g.R.Network.meaning c.args.right)
      (g.met.L.Network.lawful c.args.left) (g.met.R.Network.lawful c.args.right) c.args.lefts.now c.args.rights.now
      (records c.fresh.result) (records c.fresh-2.result) c.in_default.ensures c.fresh.ensures c.fresh-2.ensures,
  record { left = refl; right = refl },
)
