-- What an advance says for itself. Assumes nothing.
use Rattle.std.specs.Prelude.{ℕ, pos, ◌<ℤ◌}
use Rattle.scale.specs.Algebra.{Algebra}
use Rattle.model.specs.declared.state.State.{State}
use Rattle.model.specs.Plans.{Model, slack}
use Rattle.model.specs.Calls.{Advanced}
use Rattle.model.specs.Runs.{advance, advanced, History, ◌then◌, Run, Granted, Lawful}

-- after any run that led to p, the advance goes on with that run, and the law holds of the plan that it leaves;
-- granted more rounds than the slack, it decides
pub record Foretold (σ : Algebra) (p : Model) (n : ℕ) (t : State) (k : ℕ) (q : Model) (h : History) : Type 0 where
  pub does : Advanced p n t k q
  pub run : Run σ (h then (advance n, advanced t k)) q
  pub law : Lawful run
  pub enough : slack p <ℤ pos n → Granted run

abbrev pub AfterEveryRun : Algebra → Model → ℕ → State → ℕ → Model → Type 0
AfterEveryRun σ p n t k q = (h : History) → Run σ h p → Foretold σ p n t k q h
