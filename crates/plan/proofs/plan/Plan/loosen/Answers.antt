use Rattle.plan.specs.Models.{model}
use Rattle.plan.proofs.Changes.{loosen_accepted}
use Rattle.plan.proofs.plan.Plan.loosen.Goals as goal

pub returns : goal.returns
returns g c =
    let σ = g.L.Over.Scale.algebra in
    let p = model c.args.self.now in
    let q = model c.put_and_restart.new.self in
    let k = c.in_ok-b.ensures in
    let w = c.args.window in
    record { networks = c.put_and_restart.ensures.networks; call = loosen_accepted σ p q c.args.place.side c.args.place.bench w.floor w.ceiling c.in_ok-b.b c.widened.result k.0 k.1 c.in_ok-check_loosen.ensures c.widened.ensures c.put_and_restart.ensures.plan }
