-- The parts of a plan file that have a line for each station or bench. Assumes nothing.
use Rattle.std.specs.Prelude.{ℕ, zero, suc, List, [], ◌∷◌, ◌++◌, ℤ, Option}
use Rattle.layout.specs.declared.bounds.Bounds.{Bounds}
use Rattle.layout.specs.declared.faults.LineFault.{LineFault}
use Rattle.layout.specs.Faults.{on_line}
use Rattle.layout.specs.Layouts.{Layout, gives, then, told}
use Rattle.model.specs.declared.bench.Window.{Window}
use Rattle.planfile.specs.Rows.{row_of}
use Rattle.planfile.specs.Windows.{window_of}

-- k rows of n benches, the first on line i, after the cells of `done`
unfoldable pub rows_of : Bounds → ℕ → ℕ → ℕ → List (Option ℤ) → Layout LineFault (List (Option ℤ))
rows_of b n zero i done = gives done
rows_of b n (suc k) i done = then (told (on_line i) (row_of b n)) (λ row. rows_of b n k (suc i) (done ++ row))

-- k windows, the first on line i, after those of `done`
unfoldable pub windows_of : Bounds → ℕ → ℕ → List Window → Layout LineFault (List Window)
windows_of b zero i done = gives done
windows_of b (suc k) i done = then (told (on_line i) (window_of b)) (λ w. windows_of b k (suc i) (done ++ w ∷ []))
