-- Half a round, as the code makes it. Assumes nothing.
use Rattle.std.specs.Prelude.{◌≡◌, Bool, false, List, length, ℤ, Ok, Err, Result, ◌≢◌}
use Rattle.scale.specs.declared.scale.Scale.{Ghosts as ScaleGhosts}
use Rattle.network.specs.declared.network.Network.{Ghosts as NetworkGhosts}
use Rattle.network.specs.declared.refusal.Refusal.{Refusal}
use Rattle.network.specs.Networks.{Meaning}
use Rattle.model.specs.declared.bench.Bench.{Bench}
use Rattle.model.specs.Plans.{Hall as TheHall, starts, cut, cut_by, same_list, unmoved}
use Rattle.benches.specs.declared.hall.Hall.{Hall}
use Rattle.benches.specs.Records.{records}

-- what a hall of the code stands for: the meaning of its network, and its records
abbrev pub hall : {N S : Type 0} {n : NetworkGhosts N S} {s : ScaleGhosts S} → Hall N S n s → TheHall
hall {n = n} h = record { network = n.meaning h.network; table = records h.benches }

-- the latest starts of b at the arrivals of a with the starts x, unless a length is wrong
abbrev pub LimitedBy : {U : Type 0} → Meaning → List ℤ → Meaning → List ℤ → List ℤ → Result U Refusal → Type 0
LimitedBy a x b before after (Ok u) = (length x ≡ a.benches) × (a.stations ≡ b.stations) × (length before ≡ b.benches) × (after ≡ b.latest (a.arrivals x))
LimitedBy a x b before after (Err e) = length x ≡ a.benches → a.stations ≡ b.stations → length before ≢ b.benches

-- where the sizes agree, the starts of `before` are cut by the arrivals of `lead` over a, and `rests` says whether none changed;
-- where one does not, the records stay
pub record RecordsCut (a : Meaning) (lead : List Bench) (b : Meaning) (before after : List Bench) (rests : Bool) : Type 0 where
  pub agree : length lead ≡ a.benches → a.stations ≡ b.stations → length before ≡ b.benches →
      (after ≡ cut before (b.latest (a.arrivals (starts lead)))) × (rests ≡ same_list (starts before) (starts after))
  pub differ : (length lead ≡ a.benches → a.stations ≡ b.stations → length before ≢ b.benches) → (after ≡ before) × (rests ≡ false)

-- where the stations agree, the hall is cut by the arrivals of the other, and `rests` says whether no start changed; else it stays
pub record CutBy (other before after : TheHall) (rests : Bool) : Type 0 where
  pub agree : other.network.stations ≡ before.network.stations → (after ≡ cut_by before other) × (rests ≡ unmoved before after)
  pub differ : other.network.stations ≢ before.network.stations → (after ≡ before) × (rests ≡ false)
