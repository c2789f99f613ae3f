use Rattle.std.proofs.Common.{◌≡◌, length, take, drop}
use Rattle.std.specs.List.{AllZip}
use Rattle.benches.proofs.rows.rewrite.Given as goal

abbrev pub invariant-loop-b : goal.invariant-loop-b
invariant-loop-b g l =
    (length l.rows ≡ length l.initial.rows)
    × (drop l.b-index l.rows ≡ drop l.b-index l.initial.rows)
    × AllZip (goal.F-post g l.f) (take l.b-index l.initial.rows) (take l.b-index l.rows)
