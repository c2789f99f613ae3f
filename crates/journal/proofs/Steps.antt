-- A call leads a run on. Assumes nothing.
use Rattle.std.proofs.Common.{ℕ, Ok, Err, Result, refl, ap, ap₂}
use Rattle.scale.specs.Algebra.{Algebra}
use Rattle.network.specs.declared.refusal.Refusal.{Refusal}
use Rattle.network.specs.Checks.{accepted, refused}
use Rattle.network.specs.Refusals.{number}
use Rattle.model.specs.declared.bench.Window.{Window}
use Rattle.model.specs.Plans.{Model}
use Rattle.model.specs.Runs.{the_window, the_starts, Call, Reply, window_is, starts_are, Read, Does, Offers, goes_on}
use Rattle.plan.specs.Readings.{Windowed}
use Rattle.journal.specs.declared.replies.Starts.{Starts}
use Rattle.journal.specs.Calls.{starts_reply, told_reply, StartsRead}
use Rattle.journal.specs.Journals.{Stepped}

pub leads : {σ : Algebra} {p q : Model} {c : Call} {r : Reply} → Offers σ c → Does σ p c r q → Stepped σ p c r q
leads {σ} {p} {q} {c} {r} o d h run = goes_on h p q c r run o d

-- ---- readings

pub window_read : (p : Model) (s i : ℕ) (r : Result Window Refusal) → Windowed p s i r → Read p (the_window s i) (told_reply window_is r)
window_read p s i (Ok w) k = (accepted, k.checks, ap window_is k.told)
window_read p s i (Err e) k = (refused (number e), k.checks, refl)

pub starts_read : (p : Model) (m n : ℕ) (r : Result Starts Refusal) → StartsRead p m n r → Read p (the_starts m n) (told_reply starts_reply r)
starts_read p m n (Ok s) k = (accepted, k.checks, ap₂ starts_are k.told.0 k.told.1)
starts_read p m n (Err e) k = (refused (number e), k.checks, refl)
