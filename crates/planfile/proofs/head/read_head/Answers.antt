use Rattle.std.proofs.Common.{◌≡◌, ◌≤◌, length, get_or, sym, ap, ◌∙◌, arith, rules}
use Rattle.network.specs.declared.refusal.Refusal.TheVariants.{Ends, Edition, UnknownScale, Size}
use Rattle.layout.specs.Faults.{fault}
use Rattle.layout.specs.Layouts.{reached, refused, reads}
use Rattle.planfile.specs.declared.heads.Head.{Head}
use Rattle.planfile.specs.Heads.{head_of, kind}
use Rattle.planfile.proofs.HeadBytes.{bad, over, stage_1, stage_2, stage_3, stage_4, stage_5, told_fault}
use Rattle.planfile.proofs.head.read_head.Goals as goal
use Rattle.planfile.proofs.head.read_head.Goals.{in_default-via-then-file-lt1, in_default-via-in-len1-up+else-not-one_to+then-file-lt2, in_default-via-in-len2-up+else-not-one_to-2+then-file-lt3, in_default-via-in-len3-up+else-not-one_to-3+then-file-lt4, in_default-via-in-len4-up+else-not-one_to-4+then-file-lt5}

pub returns-in-len1-up-clause-reads : goal.returns-in-len1-up-clause-reads
unfolding head_of
returns-in-len1-up-clause-reads c =
    let file = c.args.file.now in
    let long : 1 ≤ length file = search rules in
    let r = c.fault.result in
    let f = fault Edition 0 in
    told_fault file r f c.fault.ensures (bad file 0 1 Edition _ (omega arith) (sym c.if-not-one_to.ensures))

pub returns-in-len2-up-clause-reads : goal.returns-in-len2-up-clause-reads
returns-in-len2-up-clause-reads c =
    let file = c.args.file.now in
    let long : 2 ≤ length file = search rules in
    let r = c.fault-in-len2-up.result in
    let f = fault UnknownScale 1 in
    told_fault file r f c.fault-in-len2-up.ensures (stage_1 file (omega arith) (sym c.if-not-one_to.ensures) ∙ bad file 1 2 UnknownScale _ (omega arith) (sym c.if-not-one_to-2.ensures))

pub returns-in-len3-up-clause-reads : goal.returns-in-len3-up-clause-reads
returns-in-len3-up-clause-reads c =
    let file = c.args.file.now in
    let long : 3 ≤ length file = search rules in
    let r = c.fault-in-len3-up.result in
    let f = fault Size 2 in
    told_fault file r f c.fault-in-len3-up.ensures (stage_2 file (omega arith) (sym c.if-not-one_to.ensures) (sym c.if-not-one_to-2.ensures) ∙ bad file 2 32 Size _ (omega arith) (sym c.if-not-one_to-3.ensures))

pub returns-in-len4-up-clause-reads : goal.returns-in-len4-up-clause-reads
returns-in-len4-up-clause-reads c =
    let file = c.args.file.now in
    let long : 4 ≤ length file = search rules in
    let r = c.fault-in-len4-up.result in
    let f = fault Size 3 in
    told_fault file r f c.fault-in-len4-up.ensures (stage_3 file (omega arith) (sym c.if-not-one_to.ensures) (sym c.if-not-one_to-2.ensures) (sym c.if-not-one_to-3.ensures) ∙ bad file 3 32 Size _ (omega arith) (sym c.if-not-one_to-4.ensures))

pub returns-in-len5-up-clause-reads : goal.returns-in-len5-up-clause-reads
returns-in-len5-up-clause-reads c =
    let file = c.args.file.now in
    let long : 5 ≤ length file = search rules in
    let r = c.fault-in-len5-up.result in
    let f = fault Size 4 in
    told_fault file r f c.fault-in-len5-up.ensures (stage_4 file (omega arith) (sym c.if-not-one_to.ensures) (sym c.if-not-one_to-2.ensures) (sym c.if-not-one_to-3.ensures) (sym c.if-not-one_to-4.ensures) ∙ bad file 4 32 Size _ (omega arith) (sym c.if-not-one_to-5.ensures))

pub returns-in-len5-up-2-clause-reads : goal.returns-in-len5-up-2-clause-reads
returns-in-len5-up-2-clause-reads c =
    let file = c.args.file.now in
    let long : 5 ≤ length file = search rules in
    let k = c.kind.ensures in let n = c.count.ensures in let l = c.count-in-len5-up-2.ensures in let r = c.count-in-len5-up-2-2.ensures in
    let head : ◌≡◌ {A = Head} (record { scale = c.kind.result; stations = c.count.result.number; left = c.count-in-len5-up-2.result.number; right = c.count-in-len5-up-2-2.result.number })
    (record { scale = kind (get_or file 1 0); stations = get_or file 2 0; left = get_or file 3 0; right = get_or file 4 0 }) = cc in
    ap (λ (h : Head). reached h 5) head ∙ sym (stage_5 file long (sym c.if-not-one_to.ensures) (sym c.if-not-one_to-2.ensures) (sym c.if-not-one_to-3.ensures) (sym c.if-not-one_to-4.ensures) (sym c.if-not-one_to-5.ensures))

pub returns-in_default-clause-reads : goal.returns-in_default-clause-reads
unfolding head_of
returns-in_default-clause-reads c =
    let file = c.args.file.now in
    let r = c.fault-in_default.result in
    let f = fault Ends (length file) in
    let ends : reads head_of file 0 ≡ refused f =
    elim c.in_default.branch [
      | in_default-via-then-file-lt1 w ↦ let e : length file ≡ 0 = search rules in over file 0 1 Edition _ (omega arith) ∙ ap (λ n. refused (fault Ends n)) (sym e)
      | in_default-via-in-len1-up+else-not-one_to+then-file-lt2 w ↦ let e : length file ≡ 1 = search rules in stage_1 file (omega arith) (sym w.if-not-one_to.ensures) ∙ over file 1 2 UnknownScale _ (omega arith) ∙ ap (λ n. refused (fault Ends n)) (sym e)
      | in_default-via-in-len2-up+else-not-one_to-2+then-file-lt3 w ↦ let e : length file ≡ 2 = search rules in stage_2 file (omega arith) (sym w.if-not-one_to.ensures) (sym w.if-not-one_to-2.ensures) ∙ over file 2 32 Size _ (omega arith) ∙ ap (λ n. refused (fault Ends n)) (sym e)
      | in_default-via-in-len3-up+else-not-one_to-3+then-file-lt4 w ↦ let e : length file ≡ 3 = search rules in stage_3 file (omega arith) (sym w.if-not-one_to.ensures) (sym w.if-not-one_to-2.ensures) (sym w.if-not-one_to-3.ensures) ∙ over file 3 32 Size _ (omega arith) ∙ ap (λ n. refused (fault Ends n)) (sym e)
      | in_default-via-in-len4-up+else-not-one_to-4+then-file-lt5 w ↦ let e : length file ≡ 4 = search rules in stage_4 file (omega arith) (sym w.if-not-one_to.ensures) (sym w.if-not-one_to-2.ensures) (sym w.if-not-one_to-3.ensures) (sym w.if-not-one_to-4.ensures) ∙ over file 4 32 Size _ (omega arith) ∙ ap (λ n. refused (fault Ends n)) (sym e)
    ] in
    told_fault file r f c.fault-in_default.ensures ends
