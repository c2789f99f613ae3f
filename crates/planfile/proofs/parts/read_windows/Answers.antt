use Rattle.std.proofs.Common.{◌≡◌, ◌+◌, ◌-◌, ◌<◌, [], ◌∷◌, length, sym, refl, ap, ◌∙◌, arith, rules}
use Rattle.std.proofs.lemmas.List.{length-append}
use Rattle.layout.specs.Faults.{on_line}
use Rattle.layout.proofs.Steps.{left_as, left_fault, left_more, read_all, told_reads}
use Rattle.planfile.specs.Parts.{windows_of}
use Rattle.planfile.proofs.Lines.{windows_next, windows_none}
use Rattle.planfile.proofs.parts.read_windows.Goals as goal

pub returns-in_err-w : goal.returns-in_err-w
returns-in_err-w c =
    let n = c.args.benches.number in
    let i = c.loop-i.i in
    let here : i < n = search rules in
    let next = left_as (windows_next c.args.bounds (n - i) (n - (i + 1)) i (i + 1) _ (omega arith) (omega arith)) c.loop-i.invariant.left in
    left_fault _ c.in_err-w.field-0.0 next (told_reads (on_line i) c.read_window.ensures (search rules)) c.from_residual.ensures.1

pub loop-i-preserved : goal.loop-i-preserved
loop-i-preserved c =
    let b = c.args.bounds in
    let n = c.args.benches.number in
    let i = c.loop-i.i in
    let here : i < n = search rules in
    let next = left_as (windows_next b (n - i) (n - (i + 1)) i (i + 1) _ (omega arith) (omega arith)) c.loop-i.invariant.left in
    let more = left_more _ c.in_ok-w.w next (told_reads (on_line i) c.read_window.ensures (search rules)) in
    record {
      full = ap length c.push.ensures ∙ length-append _ (c.in_ok-w.w ∷ []) ∙ omega (arith, c.loop-i.invariant.full);
      left = left_as (ap (windows_of b (n - (i + 1)) (i + 1)) (sym c.push.ensures)) more;
    }

pub returns : goal.returns
returns c =
    let n = c.args.benches.number in
    let i = c.loop-i.i in
    let end : i ≡ n = search rules in
    read_all _ refl (left_as (windows_none c.args.bounds (n - i) i _ (omega arith)) c.loop-i.invariant.left)
