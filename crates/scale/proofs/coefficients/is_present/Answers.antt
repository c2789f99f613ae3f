use Rattle.std.proofs.Common.{Some, sym, ap, ◌∙◌, ap₂, w32, SFits, rules}
use lib.Signed.{lt_z}
use Rattle.std.proofs.lemmas.Int.{to_z-of_z}
use Rattle.scale.specs.Algebra.{product_of}
use Rattle.scale.proofs.Everywhere.{present_is}
use Rattle.scale.proofs.coefficients.is_present.Goals as goal

pub returns : goal.returns
returns g c =
    let s = g.S.Scale.algebra in
    let n = g.met.S.Scale.numbers in
    let a = c.ranges.a in
    let l : SFits w32 c.LOWEST.result = search rules in
    let h : SFits w32 c.HIGHEST.result = search rules in
    let p : SFits w32 c.product.result = search rules in
    let e = simp to_z-of_z at c.product.ensures ∙ ap (product_of s (Some c.args.a)) (c.HIGHEST.ensures ∙ sym n.highest_is) in
    c.is_above.ensures ∙ ap₂ lt_z (to_z-of_z w32 _ l ∙ c.LOWEST.ensures ∙ sym n.lowest_is) (to_z-of_z w32 _ p ∙ e)
    ∙ sym (present_is s g.met.S.Scale.lawful c.args.a)
