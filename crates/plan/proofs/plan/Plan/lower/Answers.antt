use Rattle.std.proofs.Common.{refl, ℤ, subst, w32}
use Rattle.std.proofs.lemmas.Result.{err_from_is_err_and}
use Rattle.std.proofs.lemmas.Int.{to_z-of_z}
use Rattle.network.specs.Checks.{accepted, refused, Checked}
use Rattle.network.specs.Refusals.{number}
use Rattle.model.specs.Calls.{ceiling_checks, lowered}
use Rattle.plan.specs.Models.{model}
use Rattle.plan.proofs.Changes.{bench_refused, lower_accepted}
use Rattle.plan.proofs.plan.Plan.lower.Goals as goal

pub returns-in_err-check_ceiling : goal.returns-in_err-check_ceiling
returns-in_err-check_ceiling g c =
    let σ = g.L.Over.Scale.algebra in
    let p = model c.args.self.now in
    let e = err_from_is_err_and c.from_residual-in_err-check_ceiling.result c.from_residual-in_err-check_ceiling.ensures.1 in
    let k = c.in_ok-b.ensures in
    let v = c.args.ceiling in
    let n = number c.in_err-check_ceiling.field-0.0 in
    let h = subst (λ (z : ℤ). Checked (ceiling_checks σ p.state c.in_ok-b.b z) (refused n)) (to_z-of_z w32 v c.ranges.ceiling) c.in_err-check_ceiling.ensures in
    record { networks = record { left = refl; right = refl }; call = rw (e.1, e.2) (bench_refused p (lowered p c.args.place.side c.args.place.bench v) c.args.place.side c.args.place.bench (λ b. ceiling_checks σ p.state b v) c.in_ok-b.b n k.0 k.1 h) }

pub returns : goal.returns
returns g c =
    let σ = g.L.Over.Scale.algebra in
    let p = model c.args.self.now in
    let p' = model c.put.new.self in
    let b = c.in_ok-b.b in
    let k = c.in_ok-b.ensures in
    let v = c.args.ceiling in
    let fits = c.ranges.ceiling in
    let h = subst (λ (z : ℤ). Checked (ceiling_checks σ p.state b z) accepted) (to_z-of_z w32 v fits) c.in_ok-check_ceiling.ensures in
    let made = c.lowered-state in
    let r = simp to_z-of_z at made.ensures.row in
    let t = simp to_z-of_z at made.ensures.state in
    record { networks = record { left = c.put.ensures.networks.left; right = c.put.ensures.networks.right }; call = lower_accepted σ p p' c.args.place.side c.args.place.bench v b made.result.0 made.result.1 k.0 k.1 h r c.put.ensures.plan t }
