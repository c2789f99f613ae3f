-- How a table keeps its coefficients, and what making one answers. Assumes nothing.
use Rattle.std.specs.Prelude.{◌≡◌, ℕ, ◌+◌, ◌*◌, ◌^◌, ◌<◌, if◌then◌else◌, ◌≢◌, List, [], ◌∷◌, ℤ, pos, neg_ℤ, Some, None, Option, int_lt}
use Rattle.scale.specs.Algebra.{Algebra, counted}
use Rattle.network.specs.Lists.{at}
use Rattle.network.specs.Networks.{Meaning, Size}
use Rattle.network.specs.Checks.{Check, check}
use Rattle.table.specs.Tables.{table, in_rows}
use Rattle.table.specs.declared.table.Table.{Table}

-- the coefficient that a kept number stands for: the least number stands for none
abbrev pub asked : ℤ → Option ℤ
asked c = if int_lt (neg_ℤ (pos (2 ^ 31))) c then Some c else None

-- the coefficient of station i and bench j
abbrev pub cell_of : {S : Type 0} → Table S → ℕ → ℕ → Option ℤ
cell_of t i j = asked (at t.cells.items (i * t.benches + j))

abbrev pub table_of : {S : Type 0} → Algebra → Table S → Meaning
table_of s t = table s t.stations t.benches (cell_of t)

-- 4 for a size, then 12 for the number of cells
abbrev pub table_checks : ℕ → ℕ → ℕ → List (Check ℕ)
table_checks m n count = check 4 (¬ (Size m × Size n)) ∷ check 12 (count ≢ m * n) ∷ []

-- t is the table of m stations and n benches with these coefficients, row after row
pub record Holds {S : Type 0} (s : Algebra) (m n : ℕ) (cells : List (Option ℤ)) (t : Table S) : Type 0 where
  pub means : table_of s t ≡ table s m n (in_rows n cells)
  pub keeps : (i j : ℕ) → i < m → j < n → cell_of t i j ≡ counted s (in_rows n cells i j)
