use Rattle.std.proofs.Common.{refl, ap, ◌∙◌, w32, w64, SFits, rules}
use Rattle.std.proofs.lemmas.Int.{to_z-of_z}
use Rattle.model.specs.Runs.{state_is, slack_is}
use Rattle.benches.specs.Answers.{answer}
use Rattle.plan.specs.Exchanges.{exchange_answer}
use Rattle.plan.specs.Models.{model}
use Rattle.journal.proofs.Steps.{leads, window_read, starts_read}
use Rattle.journal.proofs.carrying.carry_out.Goals as goal

pub returns-in-Lower-clause-steps : goal.returns-in-Lower-clause-steps
returns-in-Lower-clause-steps g c =
    let value = c.in-Lower.ceiling in
    let fits : SFits w32 value = search rules in
    let does = rw (to_z-of_z w32 value fits) at c.lower.ensures.call in
    rw c.in-Lower.is (leads tt (answer c.lower.result, does, refl))

pub returns-in-Raise-clause-steps : goal.returns-in-Raise-clause-steps
returns-in-Raise-clause-steps g c =
    let value = c.in-Raise.floor in
    let fits : SFits w32 value = search rules in
    let does = rw (to_z-of_z w32 value fits) at c.raise.ensures.call in
    rw c.in-Raise.is (leads tt (answer c.raise.result, does, refl))

pub returns-in-Loosen-clause-steps : goal.returns-in-Loosen-clause-steps
returns-in-Loosen-clause-steps g c =
    rw c.in-Loosen.is (leads tt (answer c.loosen.result, c.loosen.ensures.call, refl))

pub returns-in-ExchangeLeft-clause-steps : goal.returns-in-ExchangeLeft-clause-steps
returns-in-ExchangeLeft-clause-steps g c =
    rw c.in-ExchangeLeft.is (leads (g.met.L.Network.lawful c.in-ExchangeLeft.network) (exchange_answer c.exchange_left.result, c.exchange_left.ensures.call, refl))

pub returns-in-ExchangeRight-clause-steps : goal.returns-in-ExchangeRight-clause-steps
returns-in-ExchangeRight-clause-steps g c =
    rw c.in-ExchangeRight.is (leads (g.met.R.Network.lawful c.in-ExchangeRight.network) (exchange_answer c.exchange_right.result, c.exchange_right.ensures.call, refl))

pub returns-in-Adopt-clause-steps : goal.returns-in-Adopt-clause-steps
returns-in-Adopt-clause-steps g c =
    rw c.in-Adopt.is (leads tt (answer c.adopt.result, c.adopt.ensures.call, refl))

pub returns-in-ReadState-clause-steps : goal.returns-in-ReadState-clause-steps
returns-in-ReadState-clause-steps g c =
    rw c.in-ReadState.is (leads tt (ap state_is c.state.ensures, refl))

pub returns-in-ReadSlack-clause-steps : goal.returns-in-ReadSlack-clause-steps
returns-in-ReadSlack-clause-steps g c =
    let fits : SFits w64 c.slack.result = search rules in
    rw c.in-ReadSlack.is (leads tt (ap slack_is (to_z-of_z w64 _ fits ∙ c.slack.ensures), refl))

pub returns-in-ReadWindow-clause-steps : goal.returns-in-ReadWindow-clause-steps
returns-in-ReadWindow-clause-steps g c =
    rw c.in-ReadWindow.is (leads tt (window_read (model c.args.plan.now) c.in-ReadWindow.place.side c.in-ReadWindow.place.bench c.window.result c.window.ensures, refl))

pub returns-in-ReadStarts-clause-steps : goal.returns-in-ReadStarts-clause-steps
returns-in-ReadStarts-clause-steps g c =
    rw c.in-ReadStarts.is (leads tt (starts_read (model c.args.plan.now) c.in-ReadStarts.lefts c.in-ReadStarts.rights c.read_starts.result c.read_starts.ensures, refl))
