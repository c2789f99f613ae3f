-- What an exchange of networks answers. Assumes nothing.
use Rattle.std.specs.Prelude.{◌≡◌, ℕ, Ok, Err, Result}
use Rattle.network.specs.Checks.{Answer, accepted, refused}
use Rattle.network.specs.Refusals.{number}
use Rattle.plan.specs.declared.exchanged.Unexchanged.{Unexchanged}

abbrev pub exchange_answer : {N : Type 0} → Result N (Unexchanged N) → Answer ℕ
exchange_answer (Ok n) = accepted
exchange_answer (Err e) = refused (number e.refusal)

-- the network that stood there comes back, or the one that was offered
abbrev pub Back : {N : Type 0} → N → N → Result N (Unexchanged N) → Type 0
Back old offered (Ok n) = n ≡ old
Back old offered (Err e) = e.network ≡ offered
