use Rattle.std.proofs.Common.{◌≡◌, ℕ, ℤ, pos, ◌∙◌, arith, w32, to_z, of_z, rules}
use Rattle.std.specs.Int.{int_min}
use Rattle.std.proofs.lemmas.List.{get_or-set_other}
use Rattle.scale.specs.Algebra.{quotient_of}
use Rattle.network.specs.Lists.{at}
use Rattle.network.specs.ListsLemmas.{listed_more}
use Rattle.table.specs.Cells.{asked}
use Rattle.table.proofs.rows.lower_row.Goals as goal

pub loop-j-preserved : goal.loop-j-preserved
loop-j-preserved g c =
    let j = c.loop-j.j in
    let out = c.loop-j.out in
    let limit = to_z w32 (of_z w32 c.args.limit) in
    let f : ℕ → ℤ = λ k. int_min (at c.args.out.now k) (quotient_of g.S.Scale.algebra (asked (at c.args.cells.now k)) limit) in
    let same : at out j ≡ at c.args.out.now j = c.loop-j.invariant.1 j (omega arith) in (
      listed_more f out j _ (search rules) c.loop-j.invariant.0 (search rules),
      λ k h. get_or-set_other out j k _ (pos 0) (λ q. omega (arith, q)) ∙ c.loop-j.invariant.1 k (omega arith),
    )
