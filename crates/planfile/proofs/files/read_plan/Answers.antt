use Rattle.std.proofs.Common.{◌≡◌, Err, Result, sym, ap, ◌∙◌, subst, rules}
use Rattle.std.proofs.lemmas.Result.{err_from_is_err_and}
use Rattle.scale.specs.Minutes.{minutes}
use Rattle.scale.specs.Grades.{grades}
use Rattle.layout.specs.Faults.{FileFault}
use Rattle.planfile.specs.declared.heads.Head.{Head}
use Rattle.planfile.specs.declared.heads.ScaleKind.TheVariants.{Minutes, Grades}
use Rattle.planfile.specs.declared.plans.PlanFile.{PlanFile}
use Rattle.planfile.specs.declared.plans.PlanFile.TheVariants.{Minutes as MinutesPlan, Grades as GradesPlan}
use Rattle.planfile.specs.Answers.{PlanRead}
use Rattle.planfile.specs.Sound.{plain}
use Rattle.planfile.proofs.Whole.{head_fault, head_then}
use Rattle.planfile.proofs.ByWriting.{by_writing, handed_over}
use Rattle.planfile.proofs.files.read_plan.Goals as goal

pub returns-in_err-head : goal.returns-in_err-head
returns-in_err-head c =
    let file = c.args.file.now in
    let x = c.in_err-head.field-0.0 in
    let r = c.from_residual.result in
    let e = err_from_is_err_and r c.from_residual.ensures.1 in
    let same : r ≡ Err x = e.1 ∙ ap (λ (f : FileFault). Err f) e.2 in
    let p : PlanRead file r = subst (λ (z : Result PlanFile FileFault). PlanRead file z) (sym same) (head_fault file x c.in_err-head.ensures.reads) in
    record { reads = p; law = by_writing file (λ i. (c.type_inv.file i).fits) r p }

pub returns-in-Minutes : goal.returns-in-Minutes
returns-in-Minutes c =
    let file = c.args.file.now in
    let head = c.in_ok-head.head in
    let p = handed_over minutes MinutesPlan file (plain head) c.read_contents.result c.map.result (λ d x e h. (ap (λ (z : Head). z.scale) e ∙ c.in-Minutes.is, h))
    (head_then file head Minutes c.in_ok-head.ensures.reads c.in-Minutes.is) c.read_contents.ensures (search rules) in
    record { reads = p; law = by_writing file (λ i. (c.type_inv.file i).fits) c.map.result p }

pub returns-in-Grades : goal.returns-in-Grades
returns-in-Grades c =
    let file = c.args.file.now in
    let head = c.in_ok-head.head in
    let p = handed_over grades GradesPlan file (plain head) c.read_contents-in-Grades.result c.map-in-Grades.result (λ d x e h. (ap (λ (z : Head). z.scale) e ∙ c.in-Grades.is, h))
    (head_then file head Grades c.in_ok-head.ensures.reads c.in-Grades.is) c.read_contents-in-Grades.ensures (search rules) in
    record { reads = p; law = by_writing file (λ i. (c.type_inv.file i).fits) c.map-in-Grades.result p }
