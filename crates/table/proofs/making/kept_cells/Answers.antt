use Rattle.std.proofs.Common.{◌≡◌, ◌<◌, length, get_or, None, ap, ◌∙◌, w32, SFits, rules}
use Rattle.std.proofs.lemmas.Int.{to_z-of_z}
use Rattle.scale.specs.Algebra.{counted}
use Rattle.network.specs.ListsLemmas.{written_more}
use Rattle.table.specs.Cells.{asked}
use Rattle.table.proofs.making.kept_cells.Goals as goal

pub loop-k-preserved : goal.loop-k-preserved
loop-k-preserved g c =
    let i = c.loop-k.k in
    let l : i < length c.loop-k.all = search rules in
    let f : SFits w32 c.kept.result = search rules in (
      search rules,
      written_more (λ k z. asked z ≡ counted g.S.Scale.algebra (get_or c.args.cells.now k None)) c.loop-k.all i _ l c.loop-k.invariant.1
          (ap asked (to_z-of_z w32 _ f) ∙ c.kept.ensures),
    )
