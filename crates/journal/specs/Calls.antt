-- The calls of a journal and their replies, as calls and replies of the law. Assumes nothing.
use Rattle.std.specs.Prelude.{◌≡◌, ℕ, Ok, Err, IfOk, Result}
use Rattle.network.specs.declared.refusal.Refusal.{Refusal}
use Rattle.network.specs.Networks.{Meaning}
use Rattle.network.specs.Refusals.{number}
use Rattle.network.specs.Checks.{Checked}
use Rattle.model.specs.Plans.{Model, starts}
use Rattle.model.specs.Calls.{starts_checks}
use Rattle.benches.specs.Answers.{answer}
use Rattle.model.specs.Sheets.{the_left, the_right}
use Rattle.model.specs.Runs.{Call as TheCall, lower, raise, loosen, exchange, advance, adopt, reading, the_state, the_slack, the_window, the_starts, Reply as TheReply, reply, done, turned_away, advanced, state_is, slack_is, window_is, starts_are}
use Rattle.plan.specs.Exchanges.{exchange_answer}
use Rattle.journal.specs.declared.calls.Call.{Call}
use Rattle.journal.specs.declared.calls.Call.TheVariants.{Lower, Raise, Loosen, ExchangeLeft, ExchangeRight, Advance, Adopt, ReadState, ReadSlack, ReadWindow, ReadStarts}
use Rattle.journal.specs.declared.replies.Starts.{Starts}
use Rattle.journal.specs.declared.replies.Reply.{Reply}
use Rattle.journal.specs.Starts.{starts_in}
use Rattle.journal.specs.declared.replies.Reply.TheVariants.{Changed, ExchangedLeft, ExchangedRight, Advanced, StateIs, SlackIs, WindowIs, StartsAre}

-- a network counts by its meaning
abbrev pub call_of : {L R : Type 0} → (L → Meaning) → (R → Meaning) → Call L R → TheCall
call_of a b (Lower p v) = lower p.side p.bench v
call_of a b (Raise p v) = raise p.side p.bench v
call_of a b (Loosen p w) = loosen p.side p.bench w.floor w.ceiling
call_of a b (ExchangeLeft n) = exchange the_left (a n)
call_of a b (ExchangeRight n) = exchange the_right (b n)
call_of a b (Advance n) = advance n
call_of a b Adopt = adopt
call_of a b ReadState = reading the_state
call_of a b ReadSlack = reading the_slack
call_of a b (ReadWindow p) = reading (the_window p.side p.bench)
call_of a b (ReadStarts m n) = reading (the_starts m n)

-- the starts that a reading tells
abbrev pub starts_reply : Starts → TheReply
starts_reply s = starts_are (starts_in s.lefts) (starts_in s.rights)

-- a refusal, or what f makes of what is told
abbrev pub told_reply : {T : Type 0} → (T → TheReply) → Result T Refusal → TheReply
told_reply f (Ok t) = f t
told_reply f (Err e) = turned_away (number e)

-- what came back of the networks is beside the law
abbrev pub reply_of : {L R : Type 0} → Reply L R → TheReply
reply_of (Changed r) = reply (answer r) done
reply_of (ExchangedLeft r) = reply (exchange_answer r) done
reply_of (ExchangedRight r) = reply (exchange_answer r) done
reply_of (Advanced t k) = advanced t k
reply_of (StateIs t) = state_is t
reply_of (SlackIs z) = slack_is z
reply_of (WindowIs r) = told_reply window_is r
reply_of (StartsAre r) = told_reply starts_reply r

-- the starts of p, read into lists of the lengths m and n
pub record StartsRead (p : Model) (m n : ℕ) (r : Result Starts Refusal) : Type 0 where
  pub checks : Checked (starts_checks p m n) (answer r)
  pub told : IfOk r (λ s. (starts_in s.lefts ≡ starts p.left.table) × (starts_in s.rights ≡ starts p.right.table))
