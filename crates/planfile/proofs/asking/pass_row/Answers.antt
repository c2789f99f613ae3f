use Rattle.std.proofs.Common.{refl}
use Rattle.layout.proofs.Steps.{left_all, left_fault, left_more, read_all}
use Rattle.planfile.specs.Asks.{asked_row}
use Rattle.planfile.proofs.asking.pass_row.Goals as goal

pub returns-in_err-map : goal.returns-in_err-map
returns-in_err-map c =
    left_fault _ c.in_err-map.field-0.0 (left_all (asked_row c.args.benches) c.args.cursor.now) c.in_err-map.ensures.reads c.from_residual.ensures.1

pub returns-in_err-skip : goal.returns-in_err-skip
returns-in_err-skip c =
    let fields = left_more _ c.in_ok-map.map (left_all (asked_row c.args.benches) c.args.cursor.now) c.in_ok-map.ensures.reads in
    left_fault _ c.in_err-skip.field-0.0 fields c.in_err-skip.ensures c.from_residual-in_err-skip.ensures.1

pub returns : goal.returns
returns c =
    let fields = left_more _ c.in_ok-map.map (left_all (asked_row c.args.benches) c.args.cursor.now) c.in_ok-map.ensures.reads in
    read_all c.in_ok-map.map refl (left_more _ tt fields c.in_ok-skip.ensures)
