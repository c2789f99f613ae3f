-- What readings tell. Assumes nothing.
use Rattle.std.specs.Prelude.{◌≡◌, ℕ, ◌<◌, List, length, ℤ, Ok, Err, Result}
use Rattle.network.specs.declared.refusal.Refusal.{Refusal}
use Rattle.network.specs.Checks.{Checked}
use Rattle.network.specs.Refusals.{number}
use Rattle.model.specs.declared.bench.Bench.{Bench}
use Rattle.model.specs.declared.bench.Window.{Window}
use Rattle.model.specs.Plans.{Model, starts}
use Rattle.model.specs.Sheets.{window}
use Rattle.model.specs.Calls.{table_of, bench_of, NoBench, place_checks, starts_checks}
use Rattle.benches.specs.Answers.{answer}

-- the record of a bench, or 10 where there is no such bench
abbrev pub BenchAt : Model → ℕ → ℕ → Result Bench Refusal → Type 0
BenchAt p s i (Ok b) = (i < length (table_of p s)) × (b ≡ bench_of p s i)
BenchAt p s i (Err e) = (number e ≡ 10) × NoBench p s i

abbrev pub told_window : Model → ℕ → ℕ → Result Window Refusal → Type 0
told_window p s i (Ok w) = w ≡ window (bench_of p s i)
told_window p s i (Err e) = Unit {0}

-- the window of a bench
pub record Windowed (p : Model) (s i : ℕ) (r : Result Window Refusal) : Type 0 where
  pub checks : Checked (place_checks p s i) (answer r)
  pub told : told_window p s i r

abbrev pub told_starts : {U : Type 0} → Model → List ℤ → List ℤ → List ℤ → List ℤ → Result U Refusal → Type 0
told_starts p x y x' y' (Ok u) = (x' ≡ starts p.left.table) × (y' ≡ starts p.right.table)
told_starts p x y x' y' (Err e) = (x' ≡ x) × (y' ≡ y)

-- the starts are written into the lists x and y, which then hold x' and y'
pub record Started {U : Type 0} (p : Model) (x y x' y' : List ℤ) (r : Result U Refusal) : Type 0 where
  pub checks : Checked (starts_checks p (length x) (length y)) (answer r)
  pub told : told_starts p x y x' y' r
