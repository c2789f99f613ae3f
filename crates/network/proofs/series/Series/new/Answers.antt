use Rattle.std.proofs.Common.{◌≡◌, ◌≢◌, rules}
use Rattle.network.specs.SeriesLaw.{series_chained}
use Rattle.network.proofs.series.Series.new.Goals as goal

pub returns : goal.returns
returns g c =
    let a = g.A.Network.meaning c.args.first in
    let b = g.B.Network.meaning c.args.second in
    let e : a.stations ≡ b.benches = search rules in
    let n : ¬ (a.stations ≢ b.benches) = search rules in
    ((n, tt), series_chained g.A.Over.Scale.algebra a b (g.met.A.Network.lawful c.args.first) (g.met.B.Network.lawful c.args.second) e)
