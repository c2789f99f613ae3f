-- What a run says of the plan it led to. Assumes nothing.
use Rattle.std.proofs.Common.{◌≡◌, ℕ, ◌<◌, ◌≤◌, refl}
use Rattle.scale.specs.Algebra.{Algebra, LawfulScale}
use Rattle.model.specs.declared.state.State.{State}
use Rattle.model.specs.declared.state.State.TheVariants.{Open}
use Rattle.model.specs.Plans.{Model, Rounds}
use Rattle.model.specs.Calls.{Advanced}
use Rattle.model.specs.Runs.{advance, advanced, goes_on}
use Rattle.model.proofs.Stands.{law_stands}
use Rattle.plan.specs.Advances.{AfterEveryRun}

-- both promises of an advance
pub record Both (σ : Algebra) (p : Model) (n : ℕ) (t : State) (k : ℕ) (q : Model) : Type 0 where
  pub advanced : Advanced p n t k q
  pub foretold : AfterEveryRun σ p n t k q

pub both : (σ : Algebra) → LawfulScale σ → (p q : Model) (n k : ℕ) → Rounds k p q → k ≤ n → (k < n → ¬ (q.state ≡ Open)) → Both σ p n q.state k q
both σ ok p q n k r l s =
    let does : Advanced p n q.state k q = record { made = r; granted = l; stops = s; told = refl } in
    record {
      advanced = does;
      foretold = λ h run.
          let more = goes_on h p q (advance n) (advanced q.state k) run tt (q.state, k, does, refl) in
          record { does = does; run = more; law = law_stands σ ok _ q more; enough = λ l. l };
    }
