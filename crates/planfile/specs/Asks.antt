-- A row that is asked for: its map and its fields are there, and no coefficient is looked at. Assumes nothing.
use Rattle.std.specs.Prelude.{ℕ, zero, suc, count_ones}
use Rattle.layout.specs.declared.faults.ByteFault.{ByteFault}
use Rattle.layout.specs.Layouts.{Layout, gives, then, number}
use Rattle.planfile.specs.Rows.{map_of}

-- k fields of four bytes
unfoldable pub fields : ℕ → Layout ByteFault Unit
fields zero = gives tt
fields (suc k) = then (number 4) (λ _. fields k)

-- the map of a row of n benches, with as many fields as bits stand in it
abbrev pub asked_row : ℕ → Layout ByteFault ℕ
asked_row n = then (map_of n) (λ m. then (fields (count_ones m)) (λ _. gives m))
