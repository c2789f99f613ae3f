-- What holds of a plan and its sheet between any two calls. Assumes nothing.
use Rattle.std.proofs.Common.{◌≡◌, ℕ, List, length, ℤ, refl, ap, arith}
use Rattle.scale.specs.Algebra.{Algebra}
use Rattle.network.specs.Lists.{◌≼◌, Row}
use Rattle.network.specs.Networks.{Meaning, LawfulNetwork}
use Rattle.model.specs.declared.state.State.{State}
use Rattle.model.specs.declared.state.State.TheVariants.{Open, InStep, Impossible}
use Rattle.model.specs.Plans.{Model, starts}
use Rattle.model.specs.Sheets.{HallSheet, Sheet, Keeps, Fits, Greatest, own_sheet, fresh}
use Rattle.model.proofs.Order.{≼_antisym}
use Rattle.model.proofs.Tables.{Proper, keeps_row, fresh_keeps, fresh_above, fresh_windows}

-- a network and its windows
pub record SoundHall (σ : Algebra) (d : HallSheet) : Type 0 where
  pub lawful : LawfulNetwork σ d.network
  pub count : length d.windows ≡ d.network.benches
  pub proper : Proper σ d.windows

pub record Sound (σ : Algebra) (s : Sheet) : Type 0 where
  pub left : SoundHall σ s.left
  pub right : SoundHall σ s.right
  pub level : s.left.network.stations ≡ s.right.network.stations

abbrev pub lefts : Model → List ℤ
lefts p = starts p.left.table

abbrev pub rights : Model → List ℤ
rights p = starts p.right.table

-- each side arrives nowhere later than the other
pub record Meets (a b : Meaning) (x y : List ℤ) : Type 0 where
  pub left_first : a.arrivals x ≼ b.arrivals y
  pub right_first : b.arrivals y ≼ a.arrivals x

pub record Core (σ : Algebra) (s : Sheet) (p : Model) : Type 0 where
  pub sound : Sound σ s
  pub left_keeps : ¬ (p.state ≡ Impossible) → Keeps s.left.windows (lefts p)
  pub right_keeps : ¬ (p.state ≡ Impossible) → Keeps s.right.windows (rights p)
  pub above : ¬ (p.state ≡ Impossible) → (x y : List ℤ) → Fits s x y → (x ≼ lefts p) × (y ≼ rights p)
  pub meets : p.state ≡ InStep → Meets s.left.network s.right.network (lefts p) (rights p)
  pub none : p.state ≡ Impossible → (x y : List ℤ) → Fits s x y → ⊥

abbrev pub Good : Algebra → Model → Type 0
Good σ p = Core σ (own_sheet p) p

-- ---- states apart

abbrev code : State → ℕ
code Open = 0
code InStep = 1
code Impossible = 2

pub open_possible : (t : State) → t ≡ Open → ¬ (t ≡ Impossible)
open_possible t e f = let z : ◌≡◌ {A = ℕ} 0 2 = cc (ap code e, ap code f) in omega arith

pub step_possible : (t : State) → t ≡ InStep → ¬ (t ≡ Impossible)
step_possible t e f = let z : ◌≡◌ {A = ℕ} 1 2 = cc (ap code e, ap code f) in omega arith

pub open_not_step : (t : State) → t ≡ Open → ¬ (t ≡ InStep)
open_not_step t e f = let z : ◌≡◌ {A = ℕ} 0 1 = cc (ap code e, ap code f) in omega arith

pub decided_state : (t : State) → ¬ (t ≡ Open) → ¬ (t ≡ Impossible) → t ≡ InStep
decided_state Open n m = absurd (n refl)
decided_state InStep n m = refl
decided_state Impossible n m = absurd (m refl)

pub other_state : (t : State) → ¬ (t ≡ Open) → ¬ (t ≡ InStep) → t ≡ Impossible
other_state Open n m = absurd (n refl)
other_state InStep n m = absurd (m refl)
other_state Impossible n m = refl

pub step_of : (t : State) → ¬ (¬ (t ≡ InStep)) → t ≡ InStep
step_of Open n = absurd (n (open_not_step Open refl))
step_of InStep n = refl
step_of Impossible n = absurd (n (λ e. step_possible Impossible e refl))

-- ---- first uses

pub row_of : (σ : Algebra) (d : HallSheet) (x : List ℤ) → SoundHall σ d → Keeps d.windows x → Row σ d.network.benches x
row_of σ d x h k = keeps_row σ d.network.benches d.windows x h.count h.proper k

pub core_greatest : (σ : Algebra) (s : Sheet) (p : Model) → Core σ s p → p.state ≡ InStep → Greatest s (lefts p) (rights p)
core_greatest σ s p c e =
    let can = step_possible p.state e in
    let m = c.meets e in
    record {
      fits = record { left_keeps = c.left_keeps can; right_keeps = c.right_keeps can; together = ≼_antisym (s.left.network.arrivals (lefts p)) (s.right.network.arrivals (rights p)) m.left_first m.right_first };
      highest = c.above can;
    }

pub fresh_core : (σ : Algebra) (s : Sheet) → Sound σ s → Core σ s (fresh s)
fresh_core σ s k = record {
  sound = k;
  left_keeps = λ n. fresh_keeps σ s.left.windows k.left.proper;
  right_keeps = λ n. fresh_keeps σ s.right.windows k.right.proper;
  above = λ n x y f. (fresh_above s.left.windows x f.left_keeps, fresh_above s.right.windows y f.right_keeps);
  meets = λ e. absurd (open_not_step Open refl e);
  none = λ e. absurd (open_possible Open refl e);
}

pub fresh_sheet : (s : Sheet) → own_sheet (fresh s) ≡ s
fresh_sheet s = λ i. record {
  left = record { network = s.left.network; windows = fresh_windows s.left.windows i };
  right = record { network = s.right.network; windows = fresh_windows s.right.windows i };
}
