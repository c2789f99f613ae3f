use Rattle.model.specs.Calls.{no_bench}
use Rattle.benches.proofs.Fills.{rewrite_more}
use Rattle.benches.proofs.rows.rewrite.Goals as goal

pub loop-b-preserved : goal.loop-b-preserved
loop-b-preserved g c =
    let inv = c.loop-b.invariant in
    rewrite_more (λ x y. g.F.Fn.post c.args.f (x, tt) y) c.args.rows.now c.loop-b.rows c.loop-b.b-index no_bench c.f.result
    c.loop-b-test.true inv.0 inv.1 inv.2 c.f.ensures
