use Rattle.std.proofs.Common.{◌≡◌, ℕ, ℤ, pos, ◌∙◌, arith, rules}
use Rattle.std.proofs.lemmas.List.{get_or-set_other}
use Rattle.scale.specs.Algebra.{product_of}
use Rattle.network.specs.Lists.{at}
use Rattle.network.specs.Kinds.{coefficient_at}
use Rattle.network.specs.ListsLemmas.{listed_all, listed_more}
use Rattle.network.proofs.stages.multiply.Goals as goal

pub loop-i-preserved : goal.loop-i-preserved
loop-i-preserved g c =
    let i = c.loop-i.i in
    let out = c.loop-i.out in
    let f : ℕ → ℤ = λ k. product_of g.S.Scale.algebra (coefficient_at c.args.coefficients.now k) (at c.args.out.now k) in
    let same : at out i ≡ at c.args.out.now i = c.loop-i.invariant.1 i (omega arith) in (
      listed_more f out i _ (search rules) c.loop-i.invariant.0 (search rules),
      λ k h. get_or-set_other out i k _ (pos 0) (λ q. omega (arith, q)) ∙ c.loop-i.invariant.1 k (omega arith),
    )

pub returns : goal.returns
returns g c = listed_all _ c.loop-i.out _ (search rules) (λ k h. c.loop-i.invariant.0 k (search rules))
