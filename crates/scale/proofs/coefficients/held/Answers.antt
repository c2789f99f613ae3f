use Rattle.std.proofs.Common.{rules, arith}
use Rattle.scale.proofs.coefficients.held.Goals as goal

pub returns : goal.returns
returns g c =
    let n = g.met.S.Scale.numbers in
    let l = n.lowest_is in
    let h = n.highest_is in
    search rules
