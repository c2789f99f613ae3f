use Rattle.std.proofs.Common.{◌≡◌, ◌-◌, [], length}
use Rattle.layout.proofs.Steps.{Left}
use Rattle.planfile.specs.Handed.{windows_in}
use Rattle.planfile.specs.Parts.{windows_of}
use Rattle.planfile.proofs.parts.read_windows.Given as goal

abbrev pub invariant-loop-i : goal.invariant-loop-i
invariant-loop-i l = record {
  full : length (windows_in l.windows) ≡ l.i;
  left : Left (windows_of l.bounds l.fn.benches.number 0 []) l.initial.cursor (windows_of l.bounds (l.fn.benches.number - l.i) l.i (windows_in l.windows)) l.cursor;
}
