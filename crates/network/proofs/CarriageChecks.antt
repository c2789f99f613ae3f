-- The first absent coefficient decides the checks of a carriage. Assumes nothing.
use Rattle.std.proofs.Common.{◌≡◌, ℕ, zero, suc, ◌+◌, List, [], ◌∷◌, ℤ, Some, None, Option, ap, subst, inl, inr, le_of_suc-le-suc, arith}
use Rattle.scale.specs.Algebra.{Algebra}
use Rattle.network.specs.Checks.{Checked, accepted, refused}
use Rattle.network.specs.Kinds.{coefficient_checks, FirstAbsent}

pub present_checked : (s : Algebra) (i : ℕ) (cs : List (Option ℤ)) → FirstAbsent s cs None → Checked (coefficient_checks s i cs) accepted
present_checked s i [] h = tt
present_checked s i (c ∷ cs) h = (h zero (omega arith), present_checked s (suc i) cs (λ k l. h (suc k) (omega arith)))

pub absent_checked : (s : Algebra) (i j : ℕ) (cs : List (Option ℤ)) → FirstAbsent s cs (Some j) → Checked (coefficient_checks s i cs) (refused (6, Some (i + j)))
absent_checked s i j [] h = absurd (omega (arith, h.0))
absent_checked s i zero (c ∷ cs) h = inl (h.1, ap {B = ℕ × Option ℕ} (λ n. (6, Some n)) (omega arith))
absent_checked s i (suc j) (c ∷ cs) h =
    let e : suc i + j ≡ i + suc j = omega arith in
    inr (
      h.2 zero (omega arith),
      subst (λ n. Checked (coefficient_checks s (suc i) cs) (refused (6, Some n))) e
          (absent_checked s (suc i) j cs (le_of_suc-le-suc h.0, h.1, (λ k l. h.2 (suc k) (omega arith)))),
    )
