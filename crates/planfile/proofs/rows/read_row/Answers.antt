use Rattle.layout.proofs.Steps.{left_all, left_fault, left_more, left_last}
use Rattle.planfile.specs.Rows.{row_of}
use Rattle.planfile.proofs.rows.read_row.Goals as goal

pub returns-in_err-map-clause-reads : goal.returns-in_err-map-clause-reads
returns-in_err-map-clause-reads c =
    let whole = left_all (row_of c.args.bounds c.args.benches.number) c.args.cursor.now in
    left_fault _ c.in_err-map.field-0.0 whole c.in_err-map.ensures.reads c.from_residual.ensures.1

pub returns-clause-reads : goal.returns-clause-reads
returns-clause-reads c =
    let whole = left_all (row_of c.args.bounds c.args.benches.number) c.args.cursor.now in
    left_last (left_more _ c.in_ok-map.map whole c.in_ok-map.ensures.reads) c.read_cells.ensures.reads
