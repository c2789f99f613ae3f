use Rattle.std.proofs.Common.{◌≡◌, ℕ, ◌+◌, take, drop, Ok, Err, Option, Result, sym, refl, ap, ◌∙◌, subst, arith, rules}
use Rattle.std.specs.Result.{result_map_both}
use Rattle.std.proofs.lemmas.Result.{err_from_is_err_and}
use Rattle.layout.specs.declared.cursor.Cursor.{Cursor}
use Rattle.layout.specs.declared.faults.ByteFault.{ByteFault}
use Rattle.layout.specs.Layouts.{reached, reads}
use Rattle.layout.specs.Reading.{outcome, Reads}
use Rattle.planfile.specs.Asks.{asked_row}
use Rattle.layout.specs.Faults.{FileFault, on_line, in_part}
use Rattle.layout.proofs.Steps.{told_reads}
use Rattle.planfile.specs.declared.asked.Row.{Row}
use Rattle.planfile.specs.Rowing.{Asked}
use Rattle.planfile.proofs.Skips.{asked_end}
use Rattle.planfile.proofs.asked.Reader.ask.Goals as goal

pub returns-in_err-map : goal.returns-in_err-map
returns-in_err-map c =
    let r = c.args.self.now in
    let w = c.in-Some.place in
    let x = c.in_err-map.field-0.0 in
    let e = err_from_is_err_and c.from_residual.result c.from_residual.ensures.1 in
    let same : c.from_residual.result ≡ Err x = e.1 ∙ ap (λ (f : FileFault). Err f) e.2 in
    let read = told_reads {r' = Err x} (in_part w.part) (told_reads {r' = result_map_both (λ (m : ℕ). m) (on_line w.line) c.pass_row.result} (on_line w.line) c.pass_row.ensures refl) (search rules) in
    subst (λ (z : Result (Option Row) FileFault). Asked r r z) (sym same)
    (record { stays = record { bytes = refl; head = refl; at = refl; passed = refl }; place = w; is_next = sym c.in-Some.ensures; fault = sym read.comes })

-- the row that is passed over, as it was read
passed : (n : ℕ) (c c' : Cursor) (r : Result ℕ ByteFault) (m : ℕ) → Reads (asked_row n) c c' (λ k. k) r → r ≡ Ok m →
    reached m c'.at ≡ reads (asked_row n) c.bytes.now c.at
passed n c c' r m h e = ap (λ z. outcome (λ k. k) z c'.at) (sym e) ∙ h.comes

pub slice_bounds-fields-count : goal.slice_bounds-fields-count
slice_bounds-fields-count c =
    let r = c.args.self.now in
    let m = c.in_ok-map.map in
    let q = c.pass_row.new.cursor.at in
    let end = asked_end c.in-Some.place.benches r.bytes.now r.at m q (passed _ _ _ c.pass_row.result m c.pass_row.ensures (search rules)) in
    omega (arith, end.0)

pub slice_bounds-fields-start : goal.slice_bounds-fields-start
slice_bounds-fields-start c =
    let r = c.args.self.now in
    let m = c.in_ok-map.map in
    let q = c.pass_row.new.cursor.at in
    let end = asked_end c.in-Some.place.benches r.bytes.now r.at m q (passed _ _ _ c.pass_row.result m c.pass_row.ensures (search rules)) in
    let a = end.0 in
    search rules

pub returns : goal.returns
returns c =
    let r = c.args.self.now in
    let m = c.in_ok-map.map in
    let q = c.pass_row.new.cursor.at in
    let read = passed _ _ _ c.pass_row.result m c.pass_row.ensures (search rules) in
    let end = asked_end c.in-Some.place.benches r.bytes.now r.at m q read in
    record {
      bytes = refl;
      head = refl;
      place = sym c.in-Some.ensures;
      byte = refl;
      read = sym read;
      fields = ap (λ k. take k (drop (r.at + 4) r.bytes.now)) (omega (arith, end.0));
      passed = refl;
    }
