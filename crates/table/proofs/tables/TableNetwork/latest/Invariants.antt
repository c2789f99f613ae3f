use Rattle.std.proofs.Common.{◌≡◌, ℕ, ◌<◌}
use Rattle.network.specs.Lists.{at}
use Rattle.table.specs.Tables.{latest_start}
use Rattle.table.specs.Cells.{cell_of}
use Rattle.table.proofs.tables.TableNetwork.latest.Given as goal

abbrev pub invariant-loop-i : goal.invariant-loop-i
invariant-loop-i g l = (k : ℕ) → k < l.self.benches → at l.out k ≡ latest_start g.S.Scale.algebra l.i (λ i. cell_of l.self i k) l.limits
