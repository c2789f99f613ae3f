-- What the checks of an accepted call say, by name: the only place that depends on their order. Assumes nothing.
use Rattle.std.proofs.Common.{◌≡◌, ℕ, suc, ◌<◌, ◌≤◌, ◌≢◌, List, [], ◌∷◌, length, ℤ, ◌≤ℤ◌, inl, inr, arith}
use native.Mathlib.Decide.{ℕ_discrete}
use Rattle.scale.specs.Algebra.{Algebra, LawfulScale}
use Rattle.network.specs.Networks.{Meaning}
use Rattle.network.specs.Checks.{accepted, Checked}
use Rattle.network.proofs.InOrder.{checked_both}
use Rattle.model.specs.declared.bench.Window.{Window}
use Rattle.model.specs.declared.state.State.TheVariants.{Impossible}
use Rattle.model.specs.Plans.{Model}
use Rattle.model.specs.Sheets.{Side}
use Rattle.model.specs.Calls.{NotOfScale, table_of, bench_of, hall_of, window_checks, found_checks, lower_checks, raise_checks, loosen_checks, exchange_checks}
use Rattle.scale.proofs.Integers.{≤_trans, not_lt}
use Rattle.model.proofs.Tables.{Proper}

pub same_count : (a b : ℕ) → ¬ (a ≢ b) → a ≡ b
same_count a b n = elim (ℕ_discrete a b) [ yes e ↦ e | no m ↦ absurd (n m) ]

within : (i n : ℕ) → ¬ (n ≤ i) → i < n
within i n h = omega arith

-- ---- a window value of the scale lies in its range

of_scale_low : (σ : Algebra) → LawfulScale σ → (v : ℤ) → ¬ (NotOfScale σ v) → σ.lowest ≤ℤ v
of_scale_low σ ok v n = ≤_trans _ _ _ ok.least_window.above (not_lt _ _ (λ l. n (inl l)))

of_scale_high : (σ : Algebra) → LawfulScale σ → (v : ℤ) → ¬ (NotOfScale σ v) → v ≤ℤ σ.highest
of_scale_high σ ok v n = ≤_trans _ _ _ (not_lt _ _ (λ l. n (inr l))) ok.greatest_window.below

-- ---- lower and raise: the value lies in the bench's window

pub record Narrows (p : Model) (s i : ℕ) (v : ℤ) : Type 0 where
  pub there : i < length (table_of p s)
  pub from_floor : (bench_of p s i).floor ≤ℤ v
  pub to_ceiling : v ≤ℤ (bench_of p s i).ceiling
  pub possible : ¬ (p.state ≡ Impossible)

pub lower_accepted : (σ : Algebra) (p : Model) (s i : ℕ) (v : ℤ) → Checked (lower_checks σ p s i v) accepted → Narrows p s i v
lower_accepted σ p s i v h = record {
  there = within i _ h.0;
  from_floor = not_lt _ _ h.1.1.1.0;
  to_ceiling = not_lt _ _ h.1.1.0;
  possible = h.1.1.1.1.0;
}

pub raise_accepted : (σ : Algebra) (p : Model) (s i : ℕ) (v : ℤ) → Checked (raise_checks σ p s i v) accepted → Narrows p s i v
raise_accepted σ p s i v h = record {
  there = within i _ h.0;
  from_floor = not_lt _ _ h.1.1.0;
  to_ceiling = not_lt _ _ h.1.1.1.0;
  possible = h.1.1.1.1.0;
}

-- ---- loosen: the window is at least as wide, and in the scale's range

pub record Widens (σ : Algebra) (p : Model) (s i : ℕ) (f c : ℤ) : Type 0 where
  pub there : i < length (table_of p s)
  pub low : σ.lowest ≤ℤ f
  pub floor_down : f ≤ℤ (bench_of p s i).floor
  pub ceiling_up : (bench_of p s i).ceiling ≤ℤ c
  pub high : c ≤ℤ σ.highest

pub loosen_accepted : (σ : Algebra) → LawfulScale σ → (p : Model) (s i : ℕ) (f c : ℤ) → Checked (loosen_checks σ p s i f c) accepted → Widens σ p s i f c
loosen_accepted σ ok p s i f c h = record {
  there = within i _ h.0;
  low = of_scale_low σ ok f h.1.0;
  floor_down = not_lt _ _ h.1.1.1.0;
  ceiling_up = not_lt _ _ h.1.1.1.1.0;
  high = of_scale_high σ ok c h.1.1.0;
}

-- ---- exchange: the sizes agree

pub record Replaces (p : Model) (s : Side) (m : Meaning) : Type 0 where
  pub stations : m.stations ≡ (hall_of p s).network.stations
  pub benches : m.benches ≡ (hall_of p s).network.benches

pub exchange_accepted : (p : Model) (s : Side) (m : Meaning) → Checked (exchange_checks p s m) accepted → Replaces p s m
exchange_accepted p s m h = record { stations = same_count _ _ h.0; benches = same_count _ _ h.1.0 }

-- ---- found: the sizes agree, and all windows are proper

pub record Foundable (σ : Algebra) (l r : Meaning) (lws rws : List Window) : Type 0 where
  pub level : l.stations ≡ r.stations
  pub lefts : length lws ≡ l.benches
  pub rights : length rws ≡ r.benches
  pub left_proper : Proper σ lws
  pub right_proper : Proper σ rws

windows_proper : (σ : Algebra) → LawfulScale σ → (s i : ℕ) (ws : List Window) → Checked (window_checks σ s i ws) accepted → Proper σ ws
windows_proper σ ok s i [] h = tt
windows_proper σ ok s i (w ∷ ws) h =
    (of_scale_low σ ok w.floor h.0, not_lt _ _ h.1.1.0, of_scale_high σ ok w.ceiling h.1.0, windows_proper σ ok s (suc i) ws h.1.1.1)

pub found_accepted : (σ : Algebra) → LawfulScale σ → (l r : Meaning) (lws rws : List Window) → Checked (found_checks σ l r lws rws) accepted → Foundable σ l r lws rws
found_accepted σ ok l r lws rws h =
    let both = checked_both (window_checks σ 0 0 lws) (window_checks σ 1 0 rws) h.1.1.1 in
    record {
      level = same_count _ _ h.0;
      lefts = same_count _ _ h.1.0;
      rights = same_count _ _ h.1.1.0;
      left_proper = windows_proper σ ok 0 0 lws both.0;
      right_proper = windows_proper σ ok 1 0 rws both.1;
    }
