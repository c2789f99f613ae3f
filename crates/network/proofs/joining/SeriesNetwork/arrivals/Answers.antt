use Rattle.std.proofs.Common.{length, sym, ap, ◌∙◌}
use Rattle.network.proofs.Through.{passed}
use Rattle.network.proofs.joining.SeriesNetwork.arrivals.Goals as goal

pub returns : goal.returns
returns g c =
    let a = g.A.Network.meaning c.args.self.now.first in
    let b = g.B.Network.meaning c.args.self.now.second in
    let la = g.met.A.Network.lawful c.args.self.now.first in
    let lb = g.met.B.Network.lawful c.args.self.now.second in
    let p = c.in_ok-arrivals.ensures in
    passed g.A.Over.Scale.algebra.lowest c.stations.result c.benches.result b.benches b.stations a.benches b.arrivals a.arrivals c.args.starts.now _ _ _ _ c.arrivals-2.result
    c.lowest_starts-room.ensures (rw c.stations.ensures la.stations_size.few) lb.benches_size.few c.benches.ensures
    (ap length p.2 ∙ (la.arrivals_row _).count ∙ sym c.stations.ensures) p.0 p.2 c.arrivals-2.ensures
