-- What a network answers. Assumes nothing.
use Rattle.std.specs.Prelude.{◌≡◌, ℕ, Bool, T, ◌↔◌, List, length, ℤ, Ok, Err, Result, ◌≢◌}
use Rattle.scale.specs.Algebra.{Algebra}
use Rattle.network.specs.Lists.{◌≼◌, Values}
use Rattle.network.specs.Networks.{Meaning}
use Rattle.network.specs.declared.refusal.Refusal.{Refusal}
use Rattle.network.specs.Refusals.{number}

-- Asked for f of a list of `given` values, to be written into a buffer of `wanted`: the buffer then holds f of the list;
-- or 12 where one of the two has another length, and the buffer holds what it held.
abbrev pub Answered : {U : Type 0} → ℕ → ℕ → (List ℤ → List ℤ) → List ℤ → List ℤ → List ℤ → Result U Refusal → Type 0
Answered given wanted f asked before after (Ok u) = (length asked ≡ given) × (length before ≡ wanted) × (after ≡ f asked)
Answered given wanted f asked before after (Err e) = (number e ≡ 12) × (length asked ≡ given → length before ≢ wanted) × (after ≡ before)

-- whether starts x reach every station by its limit v: by the arrivals, and by the latest starts
pub record InTime (s : Algebra) (m : Meaning) (x v : List ℤ) (answer : Bool) : Type 0 where
  pub by_arrivals : T answer ↔ (m.arrivals x ≼ v)
  pub by_latest : Values s x → Values s v → T answer ↔ (x ≼ m.latest v)

-- that answer, or 12 where one of the lists has another length
abbrev pub Timed : Algebra → Meaning → List ℤ → List ℤ → Result Bool Refusal → Type 0
Timed s m x v (Ok answer) = (length x ≡ m.benches) × (length v ≡ m.stations) × InTime s m x v answer
Timed s m x v (Err e) = (number e ≡ 12) × (length x ≡ m.benches → length v ≢ m.stations)
