use Rattle.std.proofs.Common.{◌≡◌, [], length}
use Rattle.layout.proofs.Steps.{Left}
use Rattle.planfile.specs.Rows.{cells}
use Rattle.planfile.proofs.Turns.{Turn}
use Rattle.planfile.proofs.rows.read_cells.Given as goal

abbrev pub invariant-loop-rest : goal.invariant-loop-rest
invariant-loop-rest l = record {
  turn : Turn l.row.items l.bench l.rest;
  full : length l.row.items ≡ l.fn.benches.number;
  left : Left (cells l.bounds l.fn.benches.number l.map []) l.initial.cursor (cells l.bounds turn.k l.rest turn.done) l.cursor;
}

abbrev pub decreases-loop-rest : goal.decreases-loop-rest
decreases-loop-rest l = l.rest
