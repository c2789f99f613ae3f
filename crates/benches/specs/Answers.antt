-- What calls answer. Assumes nothing.
use Rattle.std.specs.Prelude.{◌≡◌, ℕ, List, length, ℤ, Ok, Err, Result, ◌≢◌}
use Rattle.network.specs.declared.refusal.Refusal.{Refusal}
use Rattle.network.specs.Checks.{Answer, accepted, refused}
use Rattle.network.specs.Refusals.{number}
use Rattle.model.specs.declared.bench.Bench.{Bench}
use Rattle.model.specs.Plans.{starts}
use Rattle.model.specs.Calls.{Told}
use Rattle.benches.specs.declared.windows.Fault.{Fault}

-- whether a call is turned away, and with which number
abbrev pub answer : {T : Type 0} → Result T Refusal → Answer ℕ
answer (Ok t) = accepted
answer (Err e) = refused (number e)

-- what a fault of a window tells
abbrev pub told : Fault → Told
told f = (number f.refusal, f.place)

abbrev pub window_answer : {T : Type 0} → Result T Fault → Answer Told
window_answer (Ok t) = accepted
window_answer (Err f) = refused (told f)

-- the starts are written, or 12 where the list has another length, and it holds what it held
abbrev pub StartsWritten : {U : Type 0} → List Bench → List ℤ → List ℤ → Result U Refusal → Type 0
StartsWritten bs before after (Ok u) = (length before ≡ length bs) × (after ≡ starts bs)
StartsWritten bs before after (Err e) = (number e ≡ 12) × (length before ≢ length bs) × (after ≡ before)
