use Rattle.std.proofs.Common.{drop}
use Rattle.network.specs.Checks.{Answer, Checked}
use Rattle.model.specs.Calls.{Told, window_checks}
use Rattle.benches.proofs.windows.check_windows.Given as goal

abbrev pub invariant-loop-bench : goal.invariant-loop-bench
invariant-loop-bench g l =
    (a : Answer Told) → Checked (window_checks g.S.Scale.algebra l.side l.bench (drop l.bench l.windows)) a →
    Checked (window_checks g.S.Scale.algebra l.side 0 l.windows) a
