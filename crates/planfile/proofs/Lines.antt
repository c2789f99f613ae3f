-- One line after another. Assumes nothing.
use Rattle.std.proofs.Common.{◌≡◌, ℕ, suc, List, [], ◌∷◌, ◌++◌, ℤ, Option, ap, ◌∙◌}
use Rattle.layout.specs.declared.bounds.Bounds.{Bounds}
use Rattle.layout.specs.Faults.{on_line}
use Rattle.layout.specs.Layouts.{gives, then, told}
use Rattle.model.specs.declared.bench.Window.{Window}
use Rattle.planfile.specs.Rows.{row_of}
use Rattle.planfile.specs.Windows.{window_of}
use Rattle.planfile.specs.Parts.{rows_of, windows_of}

pub rows_next : (b : Bounds) (n k k' i i' : ℕ) (done : List (Option ℤ)) → k ≡ suc k' → suc i ≡ i' →
    rows_of b n k i done ≡ then (told (on_line i) (row_of b n)) (λ row. rows_of b n k' i' (done ++ row))
unfolding rows_of
rows_next b n k k' i i' done e f =
    ap (λ z. rows_of b n z i done) e ∙ ap (λ j. then (told (on_line i) (row_of b n)) (λ row. rows_of b n k' j (done ++ row))) f

pub rows_none : (b : Bounds) (n k i : ℕ) (done : List (Option ℤ)) → k ≡ 0 → rows_of b n k i done ≡ gives done
unfolding rows_of
rows_none b n k i done e = ap (λ z. rows_of b n z i done) e

pub windows_next : (b : Bounds) (k k' i i' : ℕ) (done : List Window) → k ≡ suc k' → suc i ≡ i' →
    windows_of b k i done ≡ then (told (on_line i) (window_of b)) (λ w. windows_of b k' i' (done ++ w ∷ []))
unfolding windows_of
windows_next b k k' i i' done e f =
    ap (λ z. windows_of b z i done) e ∙ ap (λ j. then (told (on_line i) (window_of b)) (λ w. windows_of b k' j (done ++ w ∷ []))) f

pub windows_none : (b : Bounds) (k i : ℕ) (done : List Window) → k ≡ 0 → windows_of b k i done ≡ gives done
unfolding windows_of
windows_none b k i done e = ap (λ z. windows_of b z i done) e
