-- What a network is. Assumes nothing.
use Rattle.std.specs.Prelude.{ℕ, ◌≤◌, ◌↔◌, List, ℤ}
use Rattle.scale.specs.Algebra.{Algebra}
use Rattle.network.specs.Lists.{◌≼◌, Row}

-- arrivals: one start a bench to one value a station; latest: one limit a station to one start a bench
pub record Meaning : Type 0 where
  pub stations : ℕ
  pub benches : ℕ
  pub arrivals : List ℤ → List ℤ
  pub latest : List ℤ → List ℤ

-- a number of stations or benches
pub record Size (n : ℕ) : Type 0 where
  pub some : 1 ≤ n
  pub few : n ≤ 32

-- What every network over the scale s owes.
pub record LawfulNetwork (s : Algebra) (m : Meaning) : Type 0 where
  pub stations_size : Size m.stations
  pub benches_size : Size m.benches
  pub arrivals_row : (x : List ℤ) → Row s m.stations (m.arrivals x)
  pub latest_row : (v : List ℤ) → Row s m.benches (m.latest v)
  -- starts reach every station by its limit exactly when they are no later than the latest starts
  pub residuated : (x v : List ℤ) → Row s m.benches x → Row s m.stations v → (m.arrivals x ≼ v) ↔ (x ≼ m.latest v)
