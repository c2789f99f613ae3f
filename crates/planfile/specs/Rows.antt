-- A row of a network: a map, then the coefficients whose bit stands, lowest bench first. Assumes nothing.
use Rattle.std.specs.Prelude.{ℕ, zero, suc, ◌/◌, ◌%◌, ◌^◌, cond, List, [], ◌∷◌, ◌++◌, ℤ, Some, None, Option, ◌==◌, nat_lt}
use Rattle.network.specs.declared.refusal.Refusal.TheVariants.{Bit, Coefficient}
use Rattle.layout.specs.declared.bounds.Bounds.{Bounds}
use Rattle.layout.specs.declared.faults.ByteFault.{ByteFault}
use Rattle.layout.specs.Layouts.{Layout, gives, then, checked}
use Rattle.layout.specs.Numbers.{number_in}

-- a map of n bits: bit j, which is worth 2 ^ j, stands for bench j
abbrev pub map_of : ℕ → Layout ByteFault ℕ
map_of n = checked 4 Bit (λ m. nat_lt m (2 ^ n))

-- the cells of k more benches after those of `done`, by the bits of m
unfoldable pub cells : Bounds → ℕ → ℕ → List (Option ℤ) → Layout ByteFault (List (Option ℤ))
cells b zero m done = gives done
cells b (suc k) m done =
    cond (m % 2 == 0)
    (cells b k (m / 2) (done ++ None ∷ []))
    (then (number_in b Coefficient) (λ a. cells b k (m / 2) (done ++ Some a ∷ [])))

-- a row of n benches
abbrev pub row_of : Bounds → ℕ → Layout ByteFault (List (Option ℤ))
row_of b n = then (map_of n) (λ m. cells b n m [])
