use Rattle.std.proofs.Common.{◌≡◌, take}
use Rattle.model.specs.Plans.{same_list}
use Rattle.model.specs.Plans.{starts, cut}
use Rattle.benches.proofs.rows.cut_rows.Given as goal

abbrev pub invariant-loop-i : goal.invariant-loop-i
invariant-loop-i l = (l.rows ≡ cut l.initial.rows (take l.i l.limits)) × (l.rests ≡ same_list (starts l.initial.rows) (starts l.rows))
