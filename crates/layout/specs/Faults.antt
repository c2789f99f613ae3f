-- What a row and the file add to a fault. Assumes nothing.
use Rattle.std.specs.Prelude.{ℕ}
use Rattle.network.specs.declared.refusal.Refusal.{Refusal}
use Rattle.layout.specs.declared.part.Part.{Part}
use Rattle.layout.specs.declared.faults.ByteFault.{ByteFault}
use Rattle.layout.specs.declared.faults.LineFault.{LineFault}
use Rattle.layout.specs.declared.faults.FileFault.{FileFault as FaultIn}

-- a fault of the field at offset p
abbrev pub fault : Refusal → ℕ → ByteFault
fault e p = record { refusal = e; byte = p }

abbrev pub on_line : ℕ → ByteFault → LineFault
on_line i f = record { refusal = f.refusal; line = i; byte = f.byte }

-- of a part of any type
abbrev pub in_part : {P : Type 0} → P → LineFault → FaultIn P
in_part p f = record { refusal = f.refusal; part = p; line = f.line; byte = f.byte }

-- a fault of a plan file
abbrev pub FileFault : Type 0
FileFault = FaultIn Part
