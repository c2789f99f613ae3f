use Rattle.std.proofs.Common.{◌≡◌, ◌*◌, drop, pos, ◌+ℤ◌, neg_ℤ, ◌≤ℤ◌}
use Rattle.model.specs.Plans.{spare}
use Rattle.benches.proofs.rows.sum_room.Given as goal

abbrev pub invariant-loop-b : goal.invariant-loop-b
invariant-loop-b l =
    (l.sum +ℤ spare (drop l.b-index l.rows) ≡ spare l.rows)
    × (neg_ℤ (pos (l.b-index * 4294967296)) ≤ℤ l.sum) × (l.sum ≤ℤ pos (l.b-index * 4294967296))
