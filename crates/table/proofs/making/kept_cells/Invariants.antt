use Rattle.std.proofs.Common.{◌≡◌, ℕ, ◌<◌, length, get_or, None}
use Rattle.scale.specs.Algebra.{counted}
use Rattle.network.specs.Lists.{at}
use Rattle.table.specs.Cells.{asked}
use Rattle.table.proofs.making.kept_cells.Given as goal

abbrev pub invariant-loop-k : goal.invariant-loop-k
invariant-loop-k g l = (length l.all ≡ 1024) × ((k : ℕ) → k < l.k → asked (at l.all k) ≡ counted g.S.Scale.algebra (get_or l.cells k None))
