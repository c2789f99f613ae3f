use Rattle.std.proofs.Common.{◌≡◌, T, ◌↔◌, length, sym, ◌∙◌, rules}
use Rattle.network.specs.Lists.{◌≼◌}
use Rattle.network.specs.ListsLemmas.{below_by_pairs}
use Rattle.network.proofs.deadlines.reaches_in_time.Goals as goal

pub returns : goal.returns
returns g c =
    let m = g.N.Network.meaning c.args.network.now in
    let x = c.args.starts.now in
    let v = c.args.limits.now in
    let p = c.in_ok-arrivals.ensures in
    let law = g.met.N.Network.lawful c.args.network.now in
    let e : length v ≡ m.stations = search rules in
    let long : length (m.arrivals x) ≡ length v = (law.arrivals_row x).count ∙ sym e in
    let told : T c.is_nowhere_above.result ↔ (m.arrivals x ≼ v) = rw (c.is_nowhere_above.ensures, p.2) (below_by_pairs (m.arrivals x) v long) in (
      p.0,
      e,
      record {
        by_arrivals = told;
        by_latest = λ xs vs.
            let both = law.residuated x v (record { count = p.0; values = xs }) (record { count = e; values = vs }) in
            ((λ t. both.0 (told.0 t)), (λ h. told.1 (both.1 h)));
      },
    )
