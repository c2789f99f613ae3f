use Rattle.std.proofs.Common.{◌≡◌, ℕ, ◌<◌, map, get_or}
use Rattle.model.specs.Sheets.{fresh_bench}
use Rattle.model.specs.Calls.{no_bench}
use Rattle.benches.proofs.rows.write_fresh.Given as goal

abbrev pub invariant-loop-i : goal.invariant-loop-i
invariant-loop-i l = (k : ℕ) → k < l.i → get_or l.rows k no_bench ≡ get_or (map fresh_bench l.windows) k no_bench
