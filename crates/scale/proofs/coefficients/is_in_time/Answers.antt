use Rattle.std.proofs.Common.{sym, ◌∙◌, subst, ap₂, w32, SFits, rules}
use lib.Signed.{le_z}
use Rattle.std.proofs.lemmas.Int.{to_z-of_z}
use Rattle.scale.specs.Algebra.{InTime}
use Rattle.scale.proofs.Everywhere.{in_time}
use Rattle.scale.proofs.coefficients.is_in_time.Goals as goal

pub returns : goal.returns
returns g c =
    let s = g.S.Scale.algebra in
    let x = c.ranges.x in
    let p : SFits w32 c.product.result = search rules in
    let e = simp to_z-of_z at c.product.ensures in
    subst (InTime s c.args.a c.args.x c.args.b) (sym (c.is_at_most.ensures ∙ ap₂ le_z (to_z-of_z w32 _ p ∙ e) (to_z-of_z w32 _ c.ranges.b)))
    (in_time s g.met.S.Scale.lawful c.args.a c.args.x c.args.b)
