-- The head of a plan file: edition, scale, stations, left benches and right benches, a byte each. Assumes nothing.
use Rattle.std.specs.Prelude.{ℕ, Bool, cond, ◌&&◌, ◌==◌, nat_le}
use Rattle.network.specs.declared.refusal.Refusal.TheVariants.{Edition, UnknownScale, Size as WrongSize}
use Rattle.layout.specs.declared.faults.ByteFault.{ByteFault}
use Rattle.layout.specs.Layouts.{Layout, gives, then, told, checked}
use Rattle.layout.specs.declared.part.Part.TheVariants.{Head as HeadPart}
use Rattle.layout.specs.Faults.{FileFault, on_line, in_part}
use Rattle.planfile.specs.declared.heads.Head.{Head}
use Rattle.planfile.specs.declared.heads.ScaleKind.{ScaleKind}
use Rattle.planfile.specs.declared.heads.ScaleKind.TheVariants.{Minutes, Grades}

-- a byte from 1 to n
abbrev pub one_to : ℕ → ℕ → Bool
one_to n v = nat_le 1 v && nat_le v n

-- the scale of a scale byte from 1 to 2
abbrev pub kind : ℕ → ScaleKind
kind v = cond (v == 1) Minutes Grades

unfoldable pub head_of : Layout ByteFault Head
head_of =
    then (checked 1 Edition (one_to 1)) (λ _. then (checked 1 UnknownScale (one_to 2)) (λ s. then (checked 1 WrongSize (one_to 32)) (λ n.
    then (checked 1 WrongSize (one_to 32)) (λ l. then (checked 1 WrongSize (one_to 32)) (λ r.
    gives (record { scale = kind s; stations = n; left = l; right = r }))))))

-- the head as a part of the file
abbrev pub head_part : Layout FileFault Head
head_part = told (in_part HeadPart) (told (on_line 0) head_of)
