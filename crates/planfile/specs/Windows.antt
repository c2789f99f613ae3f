-- The window of a bench: a map byte, then the limits whose bit stands, 1 for the floor and 2 for the ceiling. Assumes nothing.
use Rattle.std.specs.Prelude.{ℕ, ◌/◌, ◌%◌, Bool, cond, ℤ, Ok, Err, Result, ◌==◌, int_le, nat_lt}
use Rattle.network.specs.declared.refusal.Refusal.TheVariants.{Ends, Bit, Window as NoWindow, Crossed}
use Rattle.layout.specs.declared.bounds.Bounds.{Bounds}
use Rattle.layout.specs.declared.faults.ByteFault.{ByteFault}
use Rattle.layout.specs.Faults.{fault}
use Rattle.layout.specs.Layouts.{Layout, gives, fails, field, then}
use Rattle.layout.specs.Numbers.{number_in}
use Rattle.model.specs.declared.bench.Window.{Window}

abbrev pub has_floor : ℕ → Bool
has_floor m = m % 2 == 1

abbrev pub has_ceiling : ℕ → Bool
has_ceiling m = m / 2 == 1

-- a limit that stands in the file, or else the other one
unfoldable pub limit : Bounds → Bool → ℤ → Layout ByteFault ℤ
limit b stands otherwise = cond stands (number_in b NoWindow) (gives otherwise)

abbrev pub window : ℤ → ℤ → Window
window f c = record { floor = f; ceiling = c }

-- the window, or the fault of the map at offset p
abbrev pub in_order : ℤ → ℤ → ℕ → Result Window ByteFault
in_order f c p = cond (int_le f c) (Ok (window f c)) (Err (fault Crossed p))

-- the limits that stand, of a map at offset p
unfoldable pub limits_of : Bounds → ℕ → Bool → Bool → Layout ByteFault Window
limits_of b p floor ceiling =
    then (limit b floor b.least) (λ f.
    then (limit b ceiling b.greatest) (λ c.
    cond (int_le f c) (gives (window f c)) (fails (fault Crossed p))))

unfoldable pub window_of : Bounds → Layout ByteFault Window
window_of b = field 1 (fault Ends) (λ p m. cond (nat_lt m 4) (limits_of b p (has_floor m) (has_ceiling m)) (fails (fault Bit p)))
