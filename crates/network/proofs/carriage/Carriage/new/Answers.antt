use Rattle.std.proofs.Common.{◌≡◌, ℕ, ◌≤◌, ◌≢◌, List, length, ℤ, Some, Option, refl, ap, subst, inr, zero-add, arith, rules}
use Rattle.std.proofs.lemmas.Grind.{common_steps}
use Rattle.network.specs.Checks.{Checked, refused}
use Rattle.network.specs.Kinds.{carriage, coefficient_checks}
use Rattle.network.proofs.CarriageChecks.{present_checked, absent_checked}
use Rattle.network.proofs.carriage.Carriage.new.Goals as goal

pub returns-in-Some : goal.returns-in-Some
returns-in-Some g c =
    let s = g.N.Over.Scale.algebra in
    let cs = c.args.coefficients.now in
    let e : ¬ (length cs ≢ (g.N.Network.meaning c.args.below).stations) = search rules in
    let j = c.in-Some.station in
    (inr (e, subst (λ (n : ℕ). Checked (coefficient_checks s 0 cs) (refused (6, Some n))) (zero-add j) (absent_checked s 0 j cs c.in-Some.ensures)), refl)

pub unwrap-requires : goal.unwrap-requires
unwrap-requires g c =
    let few : length c.args.coefficients.now ≤ 32 = omega (arith, (g.met.N.Network.lawful c.args.below).stations_size.few) in
    grind (arith, common_steps)

pub returns : goal.returns
returns g c =
    let s = g.N.Over.Scale.algebra in
    let cs = c.args.coefficients.now in
    let b = g.N.Network.meaning c.args.below in
    let n : ¬ (length cs ≢ b.stations) = search rules in
    let e : c.unwrap.result.items ≡ cs = search rules in
    ((n, present_checked s 0 cs c.in_default.ensures), ap (λ (xs : List (Option ℤ)). carriage s xs b) e)
