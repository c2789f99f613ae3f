use Rattle.std.proofs.Common.{pos, ◌∙◌, arith}
use Rattle.std.proofs.lemmas.List.{length-map, same_lists, get_or_default}
use Rattle.model.specs.declared.bench.Bench.{Bench}
use Rattle.model.specs.Plans.{starts}
use Rattle.benches.proofs.rows.write_starts.Goals as goal

pub returns : goal.returns
returns c =
    let rows = c.args.rows.now in
    let many = length-map rows (λ (z : Bench). z.start) in
    same_lists c.loop-i.out (starts rows) (omega arith) (λ k d h.
    get_or_default c.loop-i.out k d (pos 0) h ∙ c.loop-i.invariant k (omega arith) ∙ get_or_default (starts rows) k (pos 0) d (omega arith))
