use Rattle.std.proofs.Common.{length, sym, ap, ◌∙◌}
use Rattle.network.proofs.Through.{passed}
use Rattle.network.proofs.joining.SeriesNetwork.latest.Goals as goal

pub returns : goal.returns
returns g c =
    let a = g.A.Network.meaning c.args.self.now.first in
    let b = g.B.Network.meaning c.args.self.now.second in
    let la = g.met.A.Network.lawful c.args.self.now.first in
    let lb = g.met.B.Network.lawful c.args.self.now.second in
    let p = c.in_ok-latest.ensures in
    passed g.A.Over.Scale.algebra.highest c.benches.result c.stations.result a.stations a.benches b.stations a.latest b.latest c.args.limits.now _ _ _ _ c.latest-2.result
    c.highest_limits-room.ensures (rw c.benches.ensures lb.benches_size.few) la.stations_size.few c.stations.ensures
    (ap length p.2 ∙ (lb.latest_row _).count ∙ sym c.benches.ensures) p.0 p.2 c.latest-2.ensures
