-- What a table of coefficients means. Assumes nothing.
use Rattle.std.specs.Prelude.{ℕ, zero, suc, ◌+◌, ◌*◌, List, ℤ, None, Option, slice_index_or}
use Rattle.std.specs.Int.{int_max, int_min}
use Rattle.scale.specs.Algebra.{Algebra, product_of, quotient_of}
use Rattle.network.specs.Lists.{at, listed}
use Rattle.network.specs.Networks.{Meaning}

-- the largest of low and f 0 .. f (n - 1)
abbrev pub largest : ℤ → (ℕ → ℤ) → ℕ → ℤ
largest low f zero = low
largest low f (suc n) = int_max (largest low f n) (f n)

-- the smallest of high and f 0 .. f (n - 1)
abbrev pub smallest : ℤ → (ℕ → ℤ) → ℕ → ℤ
smallest high f zero = high
smallest high f (suc n) = int_min (smallest high f n) (f n)

-- the arrival at a station: the largest product of its coefficients with the starts of the n benches
abbrev pub arrival : Algebra → ℕ → (ℕ → Option ℤ) → List ℤ → ℤ
arrival s n row xs = largest s.lowest (λ j. product_of s (row j) (at xs j)) n

-- the latest start of a bench: the smallest quotient of the limits of the m stations by its coefficients
abbrev pub latest_start : Algebra → ℕ → (ℕ → Option ℤ) → List ℤ → ℤ
latest_start s m column vs = smallest s.highest (λ i. quotient_of s (column i) (at vs i)) m

-- m stations, n benches, and the coefficient of each station and bench
abbrev pub table : Algebra → ℕ → ℕ → (ℕ → ℕ → Option ℤ) → Meaning
table s m n cell = record {
  stations = m;
  benches = n;
  arrivals = λ xs. listed (λ i. arrival s n (cell i) xs) m;
  latest = λ vs. listed (λ j. latest_start s m (λ i. cell i j) vs) n;
}

-- the coefficient of station i and bench j in a list of rows of n
abbrev pub in_rows : ℕ → List (Option ℤ) → ℕ → ℕ → Option ℤ
in_rows n cells i j = slice_index_or cells (i * n + j) None
