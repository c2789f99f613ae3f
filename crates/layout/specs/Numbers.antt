-- Numbers of four bytes, in two's complement. Assumes nothing.
use Rattle.std.specs.Prelude.{ℕ, Bool, if◌then◌else◌, ◌&&◌, ℤ, Ok, Err, Result, int_le}
use Rattle.std.proofs.Common.{to_z}
use Rattle.std.specs.Int.{w32}
use Rattle.network.specs.declared.refusal.Refusal.{Refusal}
use Rattle.network.specs.declared.refusal.Refusal.TheVariants.{Ends}
use Rattle.layout.specs.declared.bounds.Bounds.{Bounds}
use Rattle.layout.specs.declared.faults.ByteFault.{ByteFault}
use Rattle.layout.specs.Faults.{fault}
use Rattle.layout.specs.Layouts.{Layout, gives, fails, field}

-- the number whose two's complement in 32 bits is v
abbrev pub signed : ℕ → ℤ
signed v = to_z w32 v

abbrev pub within : Bounds → ℤ → Bool
within b z = int_le b.least z && int_le z b.greatest

-- z, or the refusal at offset p where z is out of bounds
abbrev pub decided : Bounds → Refusal → ℕ → ℤ → Result ℤ ByteFault
decided b e p z = if within b z then Ok z else Err (fault e p)

-- a field of four bytes whose number is within bounds
unfoldable pub number_in : Bounds → Refusal → Layout ByteFault ℤ
number_in b e = field 4 (fault Ends) (λ p v. if within b (signed v) then gives (signed v) else fails (fault e p))
