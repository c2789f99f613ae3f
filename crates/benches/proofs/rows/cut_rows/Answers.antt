use Rattle.std.proofs.Common.{◌≡◌, ◌<◌, true, false, length, get_or, set, ℤ, pos, ap, ◌∙◌, arith, w32, SFits, rules}
use lib.Signed.{lt_z}
use Rattle.std.proofs.lemmas.Int.{to_z-of_z}
use Rattle.model.specs.Calls.{no_bench}
use Rattle.benches.proofs.Turns.{lowered, cut_start, cut_fell, cut_stayed}
use Rattle.benches.proofs.rows.cut_rows.Goals as goal
use Rattle.benches.proofs.rows.cut_rows.Goals.{then-limit-rows, else-limit-rows}

pub loop-i-init : goal.loop-i-init
loop-i-init c = cut_start c.args.rows.now

pub loop-i-preserved : goal.loop-i-preserved
loop-i-preserved c =
    let es = c.args.rows.now in
    let vs = c.args.limits.now in
    let i = c.loop-i.i in
    let v = get_or vs i (pos 0) in
    let b = get_or c.loop-i.rows i no_bench in
    let vf : SFits w32 v = search rules in
    let bf : SFits w32 b.start = search rules in
    let l : i < length es = omega arith in
    let ve = to_z-of_z w32 v vf in
    let be = to_z-of_z w32 b.start bf in
    elim c.if-limit-rows.branch [
      | then-limit-rows w ↦
          let t : lt_z v b.start ≡ true = rw (ve, be) at w.if-limit-rows.true in
          let a = w.rows-is ∙ ap (λ (z : ℤ). set c.loop-i.rows i (lowered b z)) ve in
          let r = cut_fell es c.loop-i.rows c.if-limit-rows.rows vs i c.requires l c.loop-i.invariant.0 t a in
          (r.0, w.rests-is ∙ r.1)
      | else-limit-rows w ↦
          let t : lt_z v b.start ≡ false = rw (ve, be) at w.if-limit-rows.false in
          cut_stayed es c.loop-i.rows c.if-limit-rows.rows vs i c.if-limit-rows.rests c.requires l c.loop-i.invariant.0 (w.rests-is ∙ c.loop-i.invariant.1) t w.rows-is
    ]
