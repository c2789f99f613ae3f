-- What reading a plan file answers. Assumes nothing.
use Rattle.std.specs.Prelude.{◌≡◌, ℕ, List, length, Ok, Err, Result}
use Rattle.scale.specs.Algebra.{Algebra}
use Rattle.scale.specs.Minutes.{minutes}
use Rattle.scale.specs.Grades.{grades}
use Rattle.layout.specs.Faults.{FileFault}
use Rattle.layout.specs.Layouts.{reads}
use Rattle.planfile.specs.declared.heads.Head.{Head}
use Rattle.planfile.specs.declared.heads.ScaleKind.TheVariants.{Minutes, Grades}
use Rattle.planfile.specs.declared.contents.Contents.{Contents}
use Rattle.planfile.specs.declared.plans.PlanFile.{PlanFile}
use Rattle.planfile.specs.declared.plans.PlanFile.TheVariants.{Minutes as MinutesPlan, Grades as GradesPlan}
use Rattle.planfile.specs.Files.{Description, coefficients, window_values, body_of, closed, file_read}
use Rattle.planfile.specs.Documents.{Writes, FirstFault}
use Rattle.planfile.specs.Handed.{Carries}

-- the body of a file with the head h, from offset p on, over the scale s
abbrev pub BodyRead : {S : Type 0} → Algebra → List ℕ → ℕ → Head → Result (Contents S) FileFault → Type 0
BodyRead s file p h (Ok c) = (d : Description) × (closed (length file) (reads (body_of (coefficients s) (window_values s) h) file p) ≡ Ok d) × (d.head ≡ h) × Carries s d c
BodyRead s file p h (Err f) = closed (length file) (reads (body_of (coefficients s) (window_values s) h) file p) ≡ Err f

-- the tables and windows that are described, over the scale that is described
abbrev pub Hands : Description → PlanFile → Type 0
Hands d (MinutesPlan c) = (d.head.scale ≡ Minutes) × Carries minutes d c
Hands d (GradesPlan c) = (d.head.scale ≡ Grades) × Carries grades d c

-- what the layout gives
abbrev pub PlanRead : List ℕ → Result PlanFile FileFault → Type 0
PlanRead file (Ok p) = (d : Description) × (file_read file ≡ Ok d) × Hands d p
PlanRead file (Err f) = file_read file ≡ Err f

-- the file is what is handed over, written down; or the fault is its first
abbrev pub FileLaw : List ℕ → Result PlanFile FileFault → Type 0
FileLaw file (Ok p) = (d : Description) × Writes file d × Hands d p
FileLaw file (Err f) = FirstFault file f
