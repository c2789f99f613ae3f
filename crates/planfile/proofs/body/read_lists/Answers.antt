use Rattle.std.proofs.Common.{refl, rules}
use Rattle.layout.specs.declared.part.Part.TheVariants.{LeftNetwork, RightNetwork, LeftWindows, RightWindows}
use Rattle.layout.specs.Faults.{in_part}
use Rattle.layout.proofs.Steps.{left_all, left_fault, left_more, read_all, told_reads}
use Rattle.planfile.specs.Files.{body_of}
use Rattle.planfile.specs.Sound.{plain}
use Rattle.planfile.proofs.body.read_lists.Goals as goal

pub returns-in_err-left-clause-reads : goal.returns-in_err-left-clause-reads
unfolding body_of
returns-in_err-left-clause-reads c =
    let t0 = left_all (body_of c.args.ranges.coefficients c.args.ranges.windows (plain c.args.head)) c.args.cursor.now in
    left_fault _ c.in_err-left.field-0.0 t0 (told_reads (in_part LeftNetwork) c.read_rows.ensures.reads (search rules)) c.from_residual.ensures.1

pub returns-in_err-right-clause-reads : goal.returns-in_err-right-clause-reads
unfolding body_of
returns-in_err-right-clause-reads c =
    let t0 = left_all (body_of c.args.ranges.coefficients c.args.ranges.windows (plain c.args.head)) c.args.cursor.now in
    let t1 = left_more _ c.in_ok-left.left t0 (told_reads (in_part LeftNetwork) c.read_rows.ensures.reads (search rules)) in
    left_fault _ c.in_err-right.field-0.0 t1 (told_reads (in_part RightNetwork) c.read_rows-2.ensures.reads (search rules)) c.from_residual-in_err-right.ensures.1

pub returns-in_err-lefts-clause-reads : goal.returns-in_err-lefts-clause-reads
unfolding body_of
returns-in_err-lefts-clause-reads c =
    let t0 = left_all (body_of c.args.ranges.coefficients c.args.ranges.windows (plain c.args.head)) c.args.cursor.now in
    let t1 = left_more _ c.in_ok-left.left t0 (told_reads (in_part LeftNetwork) c.read_rows.ensures.reads (search rules)) in
    let t2 = left_more _ c.in_ok-right.right t1 (told_reads (in_part RightNetwork) c.read_rows-2.ensures.reads (search rules)) in
    left_fault _ c.in_err-lefts.field-0.0 t2 (told_reads (in_part LeftWindows) c.read_windows.ensures (search rules)) c.from_residual-in_err-lefts.ensures.1

pub returns-in_err-rights-clause-reads : goal.returns-in_err-rights-clause-reads
unfolding body_of
returns-in_err-rights-clause-reads c =
    let t0 = left_all (body_of c.args.ranges.coefficients c.args.ranges.windows (plain c.args.head)) c.args.cursor.now in
    let t1 = left_more _ c.in_ok-left.left t0 (told_reads (in_part LeftNetwork) c.read_rows.ensures.reads (search rules)) in
    let t2 = left_more _ c.in_ok-right.right t1 (told_reads (in_part RightNetwork) c.read_rows-2.ensures.reads (search rules)) in
    let t3 = left_more _ c.in_ok-lefts.lefts t2 (told_reads (in_part LeftWindows) c.read_windows.ensures (search rules)) in
    left_fault _ c.in_err-rights.field-0.0 t3 (told_reads (in_part RightWindows) c.read_windows-2.ensures (search rules)) c.from_residual-in_err-rights.ensures.1

pub returns-clause-reads : goal.returns-clause-reads
unfolding body_of
returns-clause-reads c =
    let t0 = left_all (body_of c.args.ranges.coefficients c.args.ranges.windows (plain c.args.head)) c.args.cursor.now in
    let t1 = left_more _ c.in_ok-left.left t0 (told_reads (in_part LeftNetwork) c.read_rows.ensures.reads (search rules)) in
    let t2 = left_more _ c.in_ok-right.right t1 (told_reads (in_part RightNetwork) c.read_rows-2.ensures.reads (search rules)) in
    let t3 = left_more _ c.in_ok-lefts.lefts t2 (told_reads (in_part LeftWindows) c.read_windows.ensures (search rules)) in
    let t4 = left_more _ c.in_ok-rights.rights t3 (told_reads (in_part RightWindows) c.read_windows-2.ensures (search rules)) in
    read_all _ refl t4
