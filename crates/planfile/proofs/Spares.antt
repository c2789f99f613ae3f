-- Two lists of the same windows are one value. Assumes nothing.
use Rattle.std.proofs.Common.{◌≡◌, ℕ, ◌+◌, ◌-◌, ◌≤◌, List, ◌++◌, length, drop, replicate, set, ℤ, refl, sym, ap, ap₂, ◌∙◌, subst, arith}
use mathlib.Core.HLevel.{is_prop→PathP}
use Rattle.std.proofs.Math.Nat.{ℕ_set}
use Rattle.std.proofs.lemmas.List.{drop-set-lt, drop-drop, drop-replicate, take-append-drop, length-take-le}
use Rattle.std.specs.Coded.{Coded, Coded-set, coded_list, coded×, coded_ℤ, code_by, le_prop}
use Rattle.model.specs.declared.bench.Window.{Window}
use Rattle.planfile.specs.declared.spans.Windows.{Windows}
use Rattle.planfile.specs.Handed.{windows_in}
use Rattle.planfile.specs.Spares.{no_window}

-- after a write at the first spare place
pub spare_more : (n : ℕ) (ws : List Window) (w : Window) → drop n ws ≡ replicate (32 - n) no_window →
    drop (n + 1) (set ws n w) ≡ replicate (32 - (n + 1)) no_window
spare_more n ws w h =
    drop-set-lt (n + 1) ws n w (omega arith) ∙ sym (drop-drop 1 n ws) ∙ ap (drop 1) h ∙ drop-replicate 1 (32 - n) no_window
    ∙ ap (λ (k : ℕ). replicate k no_window) (omega arith)

code : Coded Window
code = code_by (ℤ × ℤ) (coded× coded_ℤ coded_ℤ) (λ w. (w.floor, w.ceiling)) (λ p. record { floor = p.0; ceiling = p.1 }) (λ _. refl)

pub same_windows : (a b : Windows) → windows_in a ≡ windows_in b → a ≡ b
same_windows a b e = λ i. record {
  list = l i;
  count = n i;
  few = is_prop→PathP (λ j. n j ≤ 32) (λ j. le_prop) a.few b.few i;
  full = is_prop→PathP (λ j. length (l j) ≡ 32) (λ j. ℕ_set _ _) a.full b.full i;
  spare = is_prop→PathP (λ j. drop (n j) (l j) ≡ replicate (32 - n j) no_window) (λ j. Coded-set (coded_list code) _ _) a.spare b.spare i;
}
  where
    counted : (w : Windows) → length (windows_in w) ≡ w.count
    counted w = length-take-le w.count w.list (subst (λ (k : ℕ). w.count ≤ k) (sym w.full) w.few)

    whole : (w : Windows) → windows_in w ++ replicate (32 - w.count) no_window ≡ w.list
    whole w = ap (λ (zs : List Window). windows_in w ++ zs) (sym w.spare) ∙ take-append-drop w.count w.list

    n : a.count ≡ b.count
    n = sym (counted a) ∙ ap length e ∙ counted b

    l : a.list ≡ b.list
    l = sym (whole a) ∙ ap₂ (λ (ws : List Window) (k : ℕ). ws ++ replicate (32 - k) no_window) e n ∙ whole b
