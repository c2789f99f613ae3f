use Rattle.std.proofs.Common.{◌≡◌, ℕ, suc, sym, ◌∙◌, subst, add-one, arith, rules}
use Rattle.model.specs.Plans.{Model, round, Rounds}
use Rattle.plan.specs.Models.{model}
use Rattle.plan.proofs.Verdicts.{rounds_more}
use Rattle.plan.proofs.Reached.{both}
use Rattle.plan.proofs.plan.Plan.advance.Goals as goal

pub rounds-preserved : goal.rounds-preserved
rounds-preserved g c =
    let p = model c.args.self.now in
    let q = model c.rounds.self in
    let left : ¬ (c.rounds.made ≡ c.args.grant) = search rules in
    let more : Rounds (suc c.rounds.made) p (round q) = rounds_more c.rounds.made p q c.rounds.invariant.1 c.in-Open.is in
    let count : suc c.rounds.made ≡ c.one_more-made.result = sym (c.one_more-made.ensures ∙ add-one c.rounds.made) in (
      omega (arith, c.rounds.invariant.0, left),
      subst (λ (k : ℕ). Rounds k p (model c.round.new.self)) count (subst (λ (z : Model). Rounds (suc c.rounds.made) p z) (sym c.round.ensures.plan) more),
      record { left = c.round.ensures.networks.left ∙ c.rounds.invariant.2.left; right = c.round.ensures.networks.right ∙ c.rounds.invariant.2.right },
    )

pub returns-then-is_used : goal.returns-then-is_used
returns-then-is_used g c =
    let p = model c.args.self.now in
    let q = model c.rounds.self in
    let used : c.rounds.made ≡ c.args.grant = search rules in
    let b = both g.L.Over.Scale.algebra g.met.L.Over.Scale.lawful p q c.args.grant c.rounds.made c.rounds.invariant.1 c.rounds.invariant.0 (λ l. absurd (omega (arith, used))) in
    record { networks = c.rounds.invariant.2; advanced = b.advanced; foretold = b.foretold }

pub returns-in_default : goal.returns-in_default
returns-in_default g c =
    let p = model c.args.self.now in
    let q = model c.rounds.self in
    let b = both g.L.Over.Scale.algebra g.met.L.Over.Scale.lawful p q c.args.grant c.rounds.made c.rounds.invariant.1 c.rounds.invariant.0 (λ l. c.in_default.not-Open) in
    record { networks = c.rounds.invariant.2; advanced = b.advanced; foretold = b.foretold }
