use Rattle.std.proofs.Common.{◌≡◌, ℕ, ◌<◌}
use Rattle.network.specs.Lists.{at}
use Rattle.table.specs.Tables.{arrival}
use Rattle.table.specs.Cells.{cell_of}
use Rattle.table.proofs.tables.TableNetwork.arrivals.Given as goal

abbrev pub invariant-loop-i : goal.invariant-loop-i
invariant-loop-i g l = (k : ℕ) → k < l.i → at l.out k ≡ arrival g.S.Scale.algebra l.self.benches (cell_of l.self k) l.starts
