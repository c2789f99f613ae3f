-- The records of a side's benches. Assumes nothing.
use Rattle.std.specs.Prelude.{◌≡◌, ℕ, ◌<◌, ◌≤◌, List, length, take, Some, None, Option, slice_index_or}
use Rattle.model.specs.declared.bench.Bench.{Bench}
use Rattle.model.specs.Calls.{no_bench}
use Rattle.benches.specs.declared.table.Benches.{Benches}
use Rattle.model.specs.Sheets.{window, fresh_bench}

-- the records that are held
abbrev pub records : Benches → List Bench
records b = take b.count b.rows

-- a bench at a fresh start
abbrev pub renew_bench : Bench → Bench
renew_bench b = fresh_bench (window b)

-- the record at place i
abbrev pub Got : List Bench → ℕ → Option Bench → Type 0
Got bs i None = length bs ≤ i
Got bs i (Some b) = (i < length bs) × (b ≡ slice_index_or bs i no_bench)
