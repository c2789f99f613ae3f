use Rattle.std.proofs.Common.{◌≡◌, get_or, drop, ℤ, ◌+ℤ◌, ◌-ℤ◌, subst, arith, rules}
use Rattle.std.proofs.lemmas.Int.{ints}
use Rattle.model.specs.Plans.{spare}
use Rattle.model.specs.Calls.{no_bench}
use Rattle.benches.proofs.Fills.{spare_more}
use Rattle.benches.proofs.rows.sum_room.Goals as goal

pub loop-b-preserved : goal.loop-b-preserved
loop-b-preserved c =
    let rows = c.args.rows.now in
    let i = c.loop-b.b-index in
    let b = get_or rows i no_bench in
    let sum = c.loop-b.sum in
    let r : c.room-sum.result ≡ b.start -ℤ b.floor = search rules in
    let inv : sum +ℤ spare (drop i rows) ≡ spare rows = subst (λ (z : ℤ). z +ℤ spare (drop i rows) ≡ spare rows) c.loop-b.sum-is c.loop-b.invariant.0 in
    let all = spare_more rows i sum c.loop-b-test.true inv in (
      omega (arith, ints),
      omega (arith, ints),
      omega (arith, ints),
    )
