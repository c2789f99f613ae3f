-- A plan file as a layout: what it says, and how it is read. Assumes nothing.
use Rattle.std.specs.Prelude.{ℕ, cond, List, [], length, ℤ, Ok, Err, Option, Result, nat_lt}
use Rattle.scale.specs.Algebra.{Algebra}
use Rattle.scale.specs.Minutes.{minutes}
use Rattle.scale.specs.Grades.{grades}
use Rattle.network.specs.declared.refusal.Refusal.TheVariants.{Extra}
use Rattle.layout.specs.declared.bounds.Bounds.{Bounds}
use Rattle.layout.specs.declared.part.Part.TheVariants.{LeftNetwork, RightNetwork, LeftWindows, RightWindows, Extra as ExtraPart}
use Rattle.layout.specs.Faults.{FileFault, in_part}
use Rattle.layout.specs.Layouts.{Layout, gives, then, told, Outcome, reached, refused, reads}
use Rattle.model.specs.declared.bench.Window.{Window}
use Rattle.planfile.specs.declared.heads.Head.{Head}
use Rattle.planfile.specs.declared.heads.ScaleKind.{ScaleKind}
use Rattle.planfile.specs.declared.heads.ScaleKind.TheVariants.{Minutes, Grades}
use Rattle.planfile.specs.Heads.{head_part}
use Rattle.planfile.specs.Parts.{rows_of, windows_of}

-- what a plan file says: the sizes, the cells of both networks row after row, and the windows of both sides
pub record Description : Type 0 where
  pub head : Head
  pub left : List (Option ℤ)
  pub right : List (Option ℤ)
  pub lefts : List Window
  pub rights : List Window

abbrev pub scale_of : ScaleKind → Algebra
scale_of Minutes = minutes
scale_of Grades = grades

-- the numbers that a coefficient, and a floor or a ceiling, may have in a file
abbrev pub coefficients : Algebra → Bounds
coefficients s = record { least = s.least_coefficient; greatest = s.greatest_coefficient }

abbrev pub window_values : Algebra → Bounds
window_values s = record { least = s.least_window; greatest = s.greatest_window }

-- the parts after the head: left network, right network, left windows, right windows
unfoldable pub body_of : Bounds → Bounds → Head → Layout FileFault Description
body_of cs ws h =
    then (told (in_part LeftNetwork) (rows_of cs h.left h.stations 0 [])) (λ l.
    then (told (in_part RightNetwork) (rows_of cs h.right h.stations 0 [])) (λ r.
    then (told (in_part LeftWindows) (windows_of ws h.left 0 [])) (λ lw.
    then (told (in_part RightWindows) (windows_of ws h.right 0 [])) (λ rw.
    gives (record { head = h; left = l; right = r; lefts = lw; rights = rw })))))

abbrev pub body_by : Head → Layout FileFault Description
body_by h = body_of (coefficients (scale_of h.scale)) (window_values (scale_of h.scale)) h

unfoldable pub file_of : Layout FileFault Description
file_of = then head_part body_by

-- bytes after the end, the first of them at offset q
abbrev pub extra : ℕ → FileFault
extra q = record { refusal = Extra; part = ExtraPart; line = 0; byte = q }

-- what comes of a file of n bytes, of which a layout has been read: no byte may be left over
abbrev pub closed : {A : Type 0} → ℕ → Outcome FileFault A → Result A FileFault
closed n (reached a q) = cond (nat_lt q n) (Err (extra q)) (Ok a)
closed n (refused f) = Err f

-- what comes of a plan file
abbrev pub file_read : List ℕ → Result Description FileFault
file_read file = closed (length file) (reads file_of file 0)
