-- The checks of a side's windows, bench by bench. Assumes nothing.
use Rattle.std.proofs.Common.{ℕ, suc, ◌+◌, ◌<◌, ◌≤◌, List, ◌++◌, length, get_or, drop, pos, sym, subst, add-one}
use Rattle.std.proofs.lemmas.List.{at_drop_more, at_drop_all}
use Rattle.scale.specs.Algebra.{Algebra}
use Rattle.network.specs.Checks.{Answer, accepted, refused, Checked}
use Rattle.network.proofs.InOrder.{more_checks, early_fault}
use Rattle.model.specs.declared.bench.Window.{Window}
use Rattle.model.specs.Calls.{Told, window_check, window_checks}

-- what is read past the last window
abbrev pub no_window : Window
no_window = record { floor = pos 0; ceiling = pos 0 }

at_window : (σ : Algebra) (s i : ℕ) (ws : List Window) (a : Answer Told) → i < length ws →
    Checked (window_check σ s i (get_or ws i no_window) ++ window_checks σ s (suc i) (drop (i + 1) ws)) a → Checked (window_checks σ s i (drop i ws)) a
at_window σ s i ws a l h =
    subst (λ (z : List Window). Checked (window_checks σ s i z) a) (sym (at_drop_more (λ (z : List Window). z) ws i no_window l)) h

pub window_next : (σ : Algebra) (s i : ℕ) (ws : List Window) (a : Answer Told) → i < length ws → Checked (window_check σ s i (get_or ws i no_window)) accepted →
    Checked (window_checks σ s (i + 1) (drop (i + 1) ws)) a → Checked (window_checks σ s i (drop i ws)) a
window_next σ s i ws a l one rest =
    at_window σ s i ws a l
    (more_checks (window_check σ s i (get_or ws i no_window)) _ a one (subst (λ n. Checked (window_checks σ s n (drop (i + 1) ws)) a) (add-one i) rest))

pub window_fault : (σ : Algebra) (s i : ℕ) (ws : List Window) (u : Told) → i < length ws → Checked (window_check σ s i (get_or ws i no_window)) (refused u) →
    Checked (window_checks σ s i (drop i ws)) (refused u)
window_fault σ s i ws u l one = at_window σ s i ws (refused u) l (early_fault (window_check σ s i (get_or ws i no_window)) _ u one)

pub window_last : (σ : Algebra) (s i : ℕ) (ws : List Window) → length ws ≤ i → Checked (window_checks σ s i (drop i ws)) accepted
window_last σ s i ws l = subst (λ (z : List Window). Checked (window_checks σ s i z) accepted) (sym (at_drop_all (λ (z : List Window). z) ws i l)) tt
