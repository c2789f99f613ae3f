use Rattle.std.proofs.Common.{◌≡◌, ◌+◌, ◌≤◌, List, [], length, take, set, ℤ, Some, None, Option, refl, ap, ◌∙◌, arith, w32, SFits, to_z, of_z, rules}
use Rattle.std.specs.List.{refill}
use Rattle.std.proofs.lemmas.List.{length-set, length-replicate, take-replicate}
use Rattle.std.proofs.lemmas.Int.{to_z-of_z}
use Rattle.layout.proofs.Steps.{left_all, left_as, left_fault, left_more, read_all}
use Rattle.planfile.specs.Rows.{cells}
use Rattle.planfile.proofs.Bits.{cells_rest}
use Rattle.planfile.proofs.Turns.{turned, place, next, written}
use Rattle.planfile.proofs.rows.read_cells.Goals as goal

pub loop-rest-init : goal.loop-rest-init
loop-rest-init c =
    let n = c.args.benches.number in
    let few = c.args.benches.size.few in
    let row = c.truncate.ensures.items ∙ ap (take n) c.from-row.ensures.0 ∙ take-replicate n 32 None few in
    record {
      turn = record { done = []; k = n; shape = row; len = refl; bits = c.requires };
      full = ap length row ∙ length-replicate n None;
      left = left_all (cells c.args.bounds n c.args.map []) c.args.cursor.now;
    }

pub returns-in_err-a-clause-reads : goal.returns-in_err-a-clause-reads
returns-in_err-a-clause-reads c =
    let i = c.loop-rest.invariant in
    let few : length c.loop-rest.row.items ≤ 32 = omega (arith, i.full, c.args.benches.size.few) in
    left_fault _ c.in_err-a.field-0.0 (left_as (next c.args.bounds _ _ _ _ i.turn few c.loop-rest-test.true c.next_bit-gap.ensures) i.left) c.in_err-a.ensures c.from_residual.ensures.1

pub bounds-deref_mut-bench : goal.bounds-deref_mut-bench
bounds-deref_mut-bench c =
    let i = c.loop-rest.invariant in
    let few : length c.loop-rest.row.items ≤ 32 = omega (arith, i.full, c.args.benches.size.few) in
    omega (arith, ap length c.deref_mut.ensures.value, place c.args.bounds _ _ _ _ i.turn few c.loop-rest-test.true c.next_bit-gap.ensures)

pub loop-rest-preserved : goal.loop-rest-preserved
loop-rest-preserved c =
    let i = c.loop-rest.invariant in
    let b = c.args.bounds in
    let row = c.loop-rest.row.items in
    let a = c.in_ok-a.a in
    let fits : SFits w32 a = search rules in
    let few : length row ≤ 32 = omega (arith, i.full, c.args.benches.size.few) in
    let at = c.loop-rest.bench + c.next_bit-gap.result in
    let next_turn = turned b _ _ _ _ i.turn few c.loop-rest-test.true c.next_bit-gap.ensures a in
    let put : refill (length row) row (set c.deref_mut.result.now at (Some (to_z w32 (of_z w32 a)))) ≡ set row at (Some a) =
    ap (λ (r : List (Option ℤ)). refill (length row) row (set r at (Some (to_z w32 (of_z w32 a))))) c.deref_mut.ensures.value ∙ ap (λ (z : ℤ). refill (length row) row (set row at (Some z))) (to_z-of_z w32 a fits) ∙ written row at (Some a) in
    record {
      turn = record { done = next_turn.done; k = next_turn.k; shape = put ∙ next_turn.shape; len = next_turn.len; bits = next_turn.bits };
      full = ap length put ∙ length-set row at (Some a) ∙ i.full;
      left = left_more _ a (left_as (next b _ _ _ _ i.turn few c.loop-rest-test.true c.next_bit-gap.ensures) i.left) c.in_ok-a.ensures;
    }

pub returns-clause-reads : goal.returns-clause-reads
returns-clause-reads c =
    let i = c.loop-rest.invariant in
    let b = c.args.bounds in
    let none = ap (λ m. cells b i.turn.k m i.turn.done) c.loop-rest-test.false ∙ cells_rest b i.turn.k i.turn.done in
    read_all _ i.turn.shape (left_as none i.left)
