-- What each kind of network means. Assumes nothing.
use Rattle.std.specs.Prelude.{◌≡◌, ℕ, suc, ◌<◌, ◌≢◌, List, [], ◌∷◌, length, get_or, ℤ, Some, None, Option, slice_index_or}
use Rattle.scale.specs.Algebra.{Algebra, held, counted, product_of, quotient_of}
use Rattle.network.specs.Lists.{at, listed}
use Rattle.network.specs.Checks.{Check, check}
use Rattle.network.specs.Refusals.{number}
use Rattle.network.specs.Networks.{Meaning}
use Rattle.scale.specs.declared.scale.Scale.{Ghosts as ScaleGhosts}
use Rattle.network.specs.declared.network.Network.{Ghosts as NetworkGhosts}
use Rattle.network.specs.declared.carriage.Carriage.{Carriage}
use Rattle.network.specs.declared.carriage.Uncarried.{Uncarried}
use Rattle.network.specs.declared.series.Series.{Series}
use Rattle.network.specs.declared.straight.Straight.{Straight}

-- n values handed through, each as the scale counts it
abbrev pub handed : Algebra → ℕ → List ℤ → List ℤ
handed s n xs = listed (λ k. held s (at xs k)) n

abbrev pub straight : Algebra → ℕ → Meaning
straight s n = record {
  stations = n;
  benches = n;
  arrivals = handed s n;
  latest = handed s n;
}

-- the coefficient at a place
abbrev pub coefficient_at : List (Option ℤ) → ℕ → Option ℤ
coefficient_at cs k = slice_index_or cs k None

-- the first coefficient of the list that counts as absent
abbrev pub FirstAbsent : Algebra → List (Option ℤ) → Option ℕ → Type 0
FirstAbsent s cs None = (k : ℕ) → k < length cs → ¬ (counted s (coefficient_at cs k) ≡ None)
FirstAbsent s cs (Some i) = (i < length cs) × (counted s (coefficient_at cs i) ≡ None) × ((k : ℕ) → k < i → ¬ (counted s (coefficient_at cs k) ≡ None))

-- each of n values multiplied or divided by its coefficient
abbrev pub multiplied : Algebra → List (Option ℤ) → ℕ → List ℤ → List ℤ
multiplied s cs n us = listed (λ i. product_of s (coefficient_at cs i) (at us i)) n

abbrev pub divided : Algebra → List (Option ℤ) → ℕ → List ℤ → List ℤ
divided s cs n vs = listed (λ i. quotient_of s (coefficient_at cs i) (at vs i)) n

-- one coefficient a station over the network b
abbrev pub carriage : Algebra → List (Option ℤ) → Meaning → Meaning
carriage s cs b = record {
  stations = b.stations;
  benches = b.benches;
  arrivals = λ xs. multiplied s cs b.stations (b.arrivals xs);
  latest = λ vs. b.latest (divided s cs b.stations vs);
}

-- what a carriage over the network b checks: one coefficient for each station, then station by station that it is present
abbrev pub coefficient_checks : Algebra → ℕ → List (Option ℤ) → List (Check (ℕ × Option ℕ))
coefficient_checks s i [] = []
coefficient_checks s i (c ∷ cs) = check (6, Some i) (counted s c ≡ None) ∷ coefficient_checks s (suc i) cs

abbrev pub carriage_checks : Algebra → Meaning → List (Option ℤ) → List (Check (ℕ × Option ℕ))
carriage_checks s b cs = check (12, None) (length cs ≢ b.stations) ∷ coefficient_checks s 0 cs

-- two networks, the arrivals of a the starts of b
abbrev pub chained : Meaning → Meaning → Meaning
chained a b = record {
  stations = b.stations;
  benches = a.benches;
  arrivals = λ xs. b.arrivals (a.arrivals xs);
  latest = λ vs. a.latest (b.latest vs);
}

-- the first n values of a list, with d past its end
abbrev pub padded : ℤ → ℕ → List ℤ → List ℤ
padded d n xs = listed (λ k. get_or xs k d) n

-- the same of any two networks: where the stations of a are not as many as the benches of b, a missing start is the lowest value
-- and a missing limit the highest
abbrev pub series : Algebra → Meaning → Meaning → Meaning
series s a b = record {
  stations = b.stations;
  benches = a.benches;
  arrivals = λ xs. b.arrivals (padded s.lowest b.benches (a.arrivals xs));
  latest = λ vs. a.latest (padded s.highest a.stations (b.latest vs));
}

abbrev pub straight_of : {S : Type 0} → Algebra → Straight S → Meaning
straight_of s n = straight s n.size

abbrev pub carriage_of : {N S : Type 0} {below : NetworkGhosts N S} {over : ScaleGhosts S} → Carriage N S below over → Meaning
carriage_of {N} {S} {below} {over} n = carriage over.algebra n.coefficients.items (below.meaning n.below)

-- what the refusal of a carriage tells: its number, and the station
abbrev pub uncarried : {N : Type 0} → Uncarried N → ℕ × Option ℕ
uncarried e = (number e.refusal, e.station)

abbrev pub series_of : {A B : Type 0} → Algebra → (A → Meaning) → (B → Meaning) → Series A B → Meaning
series_of s first second n = series s (first n.first) (second n.second)
