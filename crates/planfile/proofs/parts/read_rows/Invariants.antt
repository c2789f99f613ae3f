use Rattle.std.proofs.Common.{◌≡◌, ◌-◌, ◌*◌, ◌≤◌, [], length}
use Rattle.layout.proofs.Steps.{Left}
use Rattle.planfile.specs.Parts.{rows_of}
use Rattle.planfile.proofs.parts.read_rows.Given as goal

abbrev pub invariant-loop-i : goal.invariant-loop-i
invariant-loop-i l = record {
  full : length l.cells.items ≡ l.i * l.benches.number;
  few : length l.cells.items ≤ 32 * l.i;
  left : Left (rows_of l.bounds l.benches.number l.fn.stations.number 0 []) l.initial.cursor (rows_of l.bounds l.benches.number (l.fn.stations.number - l.i) l.i l.cells.items) l.cursor;
}
