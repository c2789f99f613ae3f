-- Laws of an advance, and of solving again. Assumes nothing.
use Rattle.std.specs.Prelude.{◌≡◌, ℕ, ◌+◌, ℤ, pos, ◌≤ℤ◌, ◌<ℤ◌}
use Rattle.scale.specs.Algebra.{Algebra, LawfulScale}
use Rattle.network.specs.Checks.{accepted}
use Rattle.model.specs.declared.state.State.{State}
use Rattle.model.specs.declared.state.State.TheVariants.{InStep}
use Rattle.model.specs.Plans.{Model, starts, slack}
use Rattle.model.specs.Sheets.{own_sheet, fresh}
use Rattle.model.specs.Calls.{bench_of, Lowered, Advanced, Adopted}
use Rattle.model.specs.Runs.{History, Run}

-- two plans with the same starts
pub record SameStarts (p q : Model) : Type 0 where
  pub lefts : starts q.left.table ≡ starts p.left.table
  pub rights : starts q.right.table ≡ starts p.right.table

pub record AdvanceLaws : Type 0 where
  -- the count and the outcome depend on nothing but the plan and the grant
  pub determined : (p q q' : Model) (n k k' : ℕ) (t t' : State) → Advanced p n t k q → Advanced p n t' k' q' → (k ≡ k') × (t ≡ t') × (q ≡ q')
  -- m rounds and then n are m + n
  pub additive : (p q r : Model) (m n k l : ℕ) (t u : State) → Advanced p m t k q → Advanced q n u l r → Advanced p (m + n) u (k + l) r
  -- on a plan in step no round is made, and it stays as it is
  pub idle : (p q : Model) (n k : ℕ) (t : State) → p.state ≡ InStep → Advanced p n t k q → (k ≡ 0) × (t ≡ InStep) × (q ≡ p)

pub record AgainLaws (σ : Algebra) : Type 0 where
  -- adopt, and then any lower that does not cut a start, leaves the plan in step with the same starts
  pub adopted_lower : (p q r : Model) (s i : ℕ) (v : ℤ) → Adopted p accepted q → Lowered σ q s i v accepted r → (bench_of p s i).start ≤ℤ v →
      (r.state ≡ InStep) × SameStarts p r
  -- a fresh start over the sheet of a plan in step, and enough rounds, give the same starts
  pub fresh_again : (h : History) (p q : Model) (n k : ℕ) (t : State) → Run σ h p → p.state ≡ InStep →
      Advanced (fresh (own_sheet p)) n t k q → slack (fresh (own_sheet p)) <ℤ pos n → (q.state ≡ InStep) × SameStarts p q

abbrev pub SolvingAgain : Type 0
SolvingAgain = AdvanceLaws × ((σ : Algebra) → LawfulScale σ → AgainLaws σ)
