use Rattle.std.proofs.Common.{◌≡◌, ◌+◌, ◌-◌, ◌*◌, ◌<◌, ◌++◌, length, sym, refl, ap, ◌∙◌, add-mul, arith, rules}
use Rattle.std.proofs.lemmas.List.{length-append}
use Rattle.std.proofs.lemmas.Grind.{common_steps}
use Rattle.layout.specs.Faults.{on_line}
use Rattle.layout.proofs.Steps.{left_as, left_fault, left_more, read_all, told_reads}
use Rattle.planfile.specs.Parts.{rows_of}
use Rattle.planfile.proofs.Lines.{rows_next, rows_none}
use Rattle.planfile.proofs.parts.read_rows.Goals as goal

pub returns-in_err-row-clause-reads : goal.returns-in_err-row-clause-reads
returns-in_err-row-clause-reads c =
    let m = c.args.stations.number in
    let i = c.loop-i.i in
    let here : i < m = search rules in
    let next = left_as (rows_next c.args.bounds c.args.benches.number (m - i) (m - (i + 1)) i (i + 1) _ (omega arith) (omega arith)) c.loop-i.invariant.left in
    left_fault _ c.in_err-row.field-0.0 next (told_reads (on_line i) c.read_row.ensures.reads (search rules)) c.from_residual.ensures.1

pub loop-i-preserved : goal.loop-i-preserved
loop-i-preserved c =
    let b = c.args.bounds in
    let m = c.args.stations.number in
    let n = c.args.benches.number in
    let i = c.loop-i.i in
    let here : i < m = search rules in
    let next = left_as (rows_next b n (m - i) (m - (i + 1)) i (i + 1) _ (omega arith) (omega arith)) c.loop-i.invariant.left in
    let more = left_more _ c.in_ok-row.row next (told_reads (on_line i) c.read_row.ensures.reads (search rules)) in
    let row : length c.in_ok-row.row.items ≡ n = grind (arith, common_steps) in
    let whole : c.try_extend_from_slice.new.self.items ≡ c.loop-i.cells.items ++ c.in_ok-row.row.items = search rules in
    let more_cells = ap length whole ∙ length-append c.loop-i.cells.items c.in_ok-row.row.items in
    record {
      full = more_cells ∙ omega (arith, c.loop-i.invariant.full, row, add-mul i 1 n);
      few = omega (arith, more_cells, c.loop-i.invariant.few, row, c.args.benches.size.few);
      left = left_as (ap (rows_of b n (m - (i + 1)) (i + 1)) (sym whole)) more;
    }

pub returns : goal.returns
returns c =
    let m = c.args.stations.number in
    let n = c.args.benches.number in
    let i = c.loop-i.i in
    let end : i ≡ m = search rules in
    let none = left_as (rows_none c.args.bounds n (m - i) i _ (omega arith)) c.loop-i.invariant.left in
    record { reads = read_all _ refl none; len = c.loop-i.invariant.full ∙ ap (λ k. k * n) end }
