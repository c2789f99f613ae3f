use Rattle.std.proofs.Common.{◌≡◌, ℕ, ◌<◌, ◌≤◌}
use Rattle.std.specs.Int.{int_min}
use Rattle.scale.specs.Algebra.{quotient_of}
use Rattle.network.specs.Lists.{at}
use Rattle.table.specs.Cells.{asked}
use Rattle.table.proofs.rows.lower_row.Given as goal

abbrev pub invariant-loop-j : goal.invariant-loop-j
invariant-loop-j g l =
    ((k : ℕ) → k < l.j → at l.out k ≡ int_min (at l.initial.out k) (quotient_of g.S.Scale.algebra (asked (at l.cells k)) l.limit))
    × ((k : ℕ) → l.j ≤ k → at l.out k ≡ at l.initial.out k)
