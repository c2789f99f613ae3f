-- What is read is what is written. Assumes nothing.
use Rattle.std.proofs.Common.{◌≡◌, ℕ, List, length, Ok, Err, Result, subst, sym, ◌∙◌}
use Rattle.std.specs.Result.{result_map_both}
use Rattle.scale.specs.Algebra.{Algebra}
use Rattle.layout.specs.Faults.{FileFault}
use Rattle.layout.specs.Layouts.{reads}
use Rattle.layout.specs.Writing.{Bytes}
use Rattle.planfile.specs.declared.heads.Head.{Head}
use Rattle.planfile.specs.declared.contents.Contents.{Contents}
use Rattle.planfile.specs.declared.plans.PlanFile.{PlanFile}
use Rattle.planfile.specs.Files.{Description, coefficients, window_values, body_of, closed, file_read}
use Rattle.planfile.specs.Handed.{Carries}
use Rattle.planfile.specs.Answers.{BodyRead, Hands, PlanRead, FileLaw}
use Rattle.planfile.proofs.FilesLaw.{reads_what_is_written}

pub by_writing : (file : List ℕ) → Bytes file → (r : Result PlanFile FileFault) → PlanRead file r → FileLaw file r
by_writing file b (Ok p) h = (h.0, ((reads_what_is_written file b).accepted h.0).0 h.1, h.2)
by_writing file b (Err f) h = ((reads_what_is_written file b).refused f).0 h

-- the contents of a body, as the plan file that `make` makes of them
pub handed_over :
    {S : Type 0} (s : Algebra) (make : Contents S → PlanFile) (file : List ℕ) (h : Head) (r : Result (Contents S) FileFault) (r' : Result PlanFile FileFault)
    → ((d : Description) (c : Contents S) → d.head ≡ h → Carries s d c → Hands d (make c))
    → file_read file ≡ closed (length file) (reads (body_of (coefficients s) (window_values s) h) file 5)
    → BodyRead s file 5 h r → r' ≡ result_map_both make (λ f. f) r → PlanRead file r'
handed_over s make file h (Ok c) r' hands whole b e = subst (PlanRead file) (sym e) (b.0, whole ∙ b.1, hands b.0 c b.2 b.3)
handed_over s make file h (Err f) r' hands whole b e = subst (PlanRead file) (sym e) (whole ∙ b)
