use Rattle.std.proofs.Common.{map, ◌∙◌, arith}
use Rattle.std.proofs.lemmas.List.{length-map, same_lists, get_or_default}
use Rattle.model.specs.Sheets.{fresh_bench}
use Rattle.model.specs.Calls.{no_bench}
use Rattle.benches.proofs.rows.write_fresh.Goals as goal

pub returns : goal.returns
returns c =
    let ws = c.args.windows.now in
    let many = length-map ws fresh_bench in
    same_lists c.loop-i.rows (map fresh_bench ws) (omega arith) (λ k d h.
    get_or_default c.loop-i.rows k d no_bench h ∙ c.loop-i.invariant k (omega arith) ∙ get_or_default (map fresh_bench ws) k no_bench d (omega arith))
