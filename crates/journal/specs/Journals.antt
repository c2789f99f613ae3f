-- A plan from its founding on: whole lists of calls. Assumes nothing.
use Rattle.std.specs.Prelude.{◌≡◌, List, [], ◌∷◌, map, length, Ok, Err, Result, Vec}
use Rattle.std.specs.declared.alloc.Global.{Global}
use Rattle.scale.specs.Algebra.{Algebra}
use Rattle.scale.specs.declared.scale.Scale.{Ghosts as ScaleGhosts}
use Rattle.network.specs.declared.network.Network.{Ghosts as NetworkGhosts}
use Rattle.network.specs.Networks.{Meaning}
use Rattle.model.specs.declared.bench.Window.{Window}
use Rattle.model.specs.Plans.{Model}
use Rattle.model.specs.Runs.{Call as TheCall, Reply as TheReply, History, found, ◌then◌, Run, Lawful}
use Rattle.plan.specs.declared.plan.Plan.{Plan}
use Rattle.plan.specs.Models.{model}
use Rattle.plan.specs.Founding.{Founds}
use Rattle.journal.specs.declared.replies.Reply.{Reply}
use Rattle.journal.specs.declared.entries.Journal.{Journal}
use Rattle.journal.specs.declared.unstarted.Unstarted.{Unstarted}
use Rattle.journal.specs.Calls.{call_of, reply_of}
use Rattle.journal.specs.Kinds.{AnswersEach}
use Rattle.journal.specs.Networks.{LeavesAfter}

-- a call with its reply leads every run that led to p on to q
abbrev pub Stepped : Algebra → Model → TheCall → TheReply → Model → Type 0
Stepped σ p c r q = (h : History) → Run σ h p → Run σ (h then (c, r)) q

-- the history h, and then these calls with their replies
abbrev pub after : History → List TheCall → List TheReply → History
after h [] rs = h
after h (c ∷ cs) [] = h
after h (c ∷ cs) (r ∷ rs) = after (h then (c, r)) cs rs

-- the calls cs with the replies rs, one for each, lead every run that led to p on to q
pub record Replayed (σ : Algebra) (p : Model) (cs : List TheCall) (rs : List TheReply) (q : Model) : Type 0 where
  pub each : length rs ≡ length cs
  pub leads : (h : History) → Run σ h p → Run σ (after h cs rs) q

-- the law over the history h, which left q: it is a run, it has one sheet, and the plan stands by it
pub record Holds (σ : Algebra) (h : History) (q : Model) : Type 0 where
  pub run : Run σ h q
  pub law : Lawful run

abbrev pub calls_of : {L R : Type 0} → (L → Meaning) → (R → Meaning) → Journal L R → List TheCall
calls_of a b j = map (call_of a b) j.calls.items

abbrev pub replies_of : {L R : Type 0} → Vec (Reply L R) Global → List TheReply
replies_of v = map reply_of v.items

-- what a replay of the journal j answers, over the networks l and r with these windows
module _ {L R S : Type 0} {a : NetworkGhosts L S} {s : ScaleGhosts S} {b : NetworkGhosts R S} (l : L) (r : R) (lws rws : List Window) (j : Journal L R) where
  -- the plan is founded, and the journal as it was; or the first fault of founding, and everything back
  abbrev pub Begins : Result (Plan L R S a s b × Journal L R) (Unstarted L R) → Type 0
  Begins (Ok u) = Founds l r lws rws (Ok u.0) × (u.1 ≡ j)
  Begins (Err u) = Founds {a = a} {s = s} {b = b} l r lws rws (Err u.unfounded) × (u.journal ≡ j)

  -- a reply for each call; the law over the founding and these calls with these replies; which networks the replies hand back
  -- and which stand at the end, from the founding ones on; and each reply of its call's kind. Or not founded
  abbrev pub Replays : Result (Plan L R S a s b × Vec (Reply L R) Global) (Unstarted L R) → Type 0
  Replays (Ok u) =
      (length u.1.items ≡ length j.calls.items)
      × Holds s.algebra (after (found (a.meaning l) (b.meaning r) lws rws) (calls_of a.meaning b.meaning j) (replies_of u.1)) (model u.0)
      × LeavesAfter l r j.calls.items u.1.items u.0.left.network u.0.right.network
      × AnswersEach j.calls.items u.1.items
  Replays (Err u) = Begins (Err u)
