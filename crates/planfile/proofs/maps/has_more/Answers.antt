use Rattle.std.proofs.Common.{◌^◌, ◌<◌, arith, rules}
use Rattle.std.proofs.lemmas.Bool.Decides.{nat_tests}
use Rattle.planfile.proofs.Bits.{none_above}
use Rattle.planfile.proofs.maps.has_more.Goals as goal

pub returns-else-benches-lt32 : goal.returns-else-benches-lt32
returns-else-benches-lt32 c =
    let small : c.args.map < 2 ^ 32 = search rules in
    let none = none_above c.args.map 32 c.args.benches small (omega arith) in
    grind (arith, nat_tests)
