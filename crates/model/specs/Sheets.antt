-- The sheet: the networks and windows that the calls have set, and what fits it. Assumes nothing.
use Rattle.std.specs.Prelude.{◌≡◌, ℕ, zero, suc, List, [], ◌∷◌, map, ℤ, ◌≤ℤ◌}
use Rattle.network.specs.Lists.{◌≼◌}
use Rattle.network.specs.Networks.{Meaning}
use Rattle.model.specs.declared.bench.Window.{Window}
use Rattle.model.specs.declared.bench.Bench.{Bench}
use Rattle.model.specs.declared.state.State.TheVariants.{Open}
use Rattle.model.specs.Plans.{Hall, Model}

-- one side of a sheet
pub record HallSheet : Type 0 where
  pub network : Meaning
  pub windows : List Window

pub record Sheet : Type 0 where
  pub left : HallSheet
  pub right : HallSheet

abbrev pub new_sheet : Meaning → Meaning → List Window → List Window → Sheet
new_sheet l r lws rws = record { left = record { network = l; windows = lws }; right = record { network = r; windows = rws } }

-- ---- what fits

-- one start a window, each from its floor to its ceiling
abbrev pub Keeps : List Window → List ℤ → Type 0
Keeps [] [] = Unit {0}
Keeps [] (x ∷ xs) = ⊥
Keeps (w ∷ ws) [] = ⊥
Keeps (w ∷ ws) (x ∷ xs) = (w.floor ≤ℤ x) × (x ≤ℤ w.ceiling) × Keeps ws xs

-- x are starts of the left hall and y of the right: they keep the windows, and arrive together at every station
pub record Fits (s : Sheet) (x y : List ℤ) : Type 0 where
  pub left_keeps : Keeps s.left.windows x
  pub right_keeps : Keeps s.right.windows y
  pub together : s.left.network.arrivals x ≡ s.right.network.arrivals y

-- they fit, and no others that fit are higher at any bench
pub record Greatest (s : Sheet) (x y : List ℤ) : Type 0 where
  pub fits : Fits s x y
  pub highest : (x' y' : List ℤ) → Fits s x' y' → (x' ≼ x) × (y' ≼ y)

abbrev pub SomeFits : Sheet → Type 0
SomeFits s = (x : List ℤ) × (y : List ℤ) × Fits s x y

-- ---- the windows and networks of a plan, as a sheet

abbrev pub window : Bench → Window
window b = record { floor = b.floor; ceiling = b.ceiling }

abbrev pub windows : List Bench → List Window
windows bs = map window bs

abbrev pub hall_sheet : Hall → HallSheet
hall_sheet h = record { network = h.network; windows = windows h.table }

abbrev pub own_sheet : Model → Sheet
own_sheet p = record { left = hall_sheet p.left; right = hall_sheet p.right }

-- ---- a fresh start on a sheet: every start at its ceiling, and the plan open

abbrev pub fresh_bench : Window → Bench
fresh_bench w = record { floor = w.floor; ceiling = w.ceiling; start = w.ceiling }

abbrev pub fresh_hall : HallSheet → Hall
fresh_hall d = record { network = d.network; table = map fresh_bench d.windows }

abbrev pub fresh : Sheet → Model
fresh s = record { left = fresh_hall s.left; right = fresh_hall s.right; state = Open }

-- ---- what is written on a sheet

pub data Side : Type 0 where
  the_left : Side
  the_right : Side

-- the list with f applied at place i
abbrev pub alter : {A : Type 0} → ℕ → (A → A) → List A → List A
alter i f [] = []
alter zero f (x ∷ xs) = f x ∷ xs
alter (suc i) f (x ∷ xs) = x ∷ alter i f xs

abbrev pub put_ceiling : ℤ → Window → Window
put_ceiling v w = record { floor = w.floor; ceiling = v }

abbrev pub put_floor : ℤ → Window → Window
put_floor v w = record { floor = v; ceiling = w.ceiling }

abbrev pub put_both : ℤ → ℤ → Window → Window
put_both f c w = record { floor = f; ceiling = c }

abbrev pub rewrite : ℕ → (Window → Window) → HallSheet → HallSheet
rewrite i f d = record { network = d.network; windows = alter i f d.windows }

-- the sheet with f applied to the window of the bench i of the side s, 0 for left and 1 for right
abbrev pub rewrite_at : Sheet → ℕ → ℕ → (Window → Window) → Sheet
rewrite_at s zero i f = record { left = rewrite i f s.left; right = s.right }
rewrite_at s (suc zero) i f = record { left = s.left; right = rewrite i f s.right }
rewrite_at s (suc (suc n)) i f = s

abbrev pub put_network : Sheet → Side → Meaning → Sheet
put_network s the_left m = record { left = record { network = m; windows = s.left.windows }; right = s.right }
put_network s the_right m = record { left = s.left; right = record { network = m; windows = s.right.windows } }

-- the windows with x as ceilings
abbrev pub under : List ℤ → List Window → List Window
under [] ws = ws
under (v ∷ x) [] = []
under (v ∷ x) (w ∷ ws) = put_ceiling v w ∷ under x ws

abbrev pub put_ceilings : Sheet → List ℤ → List ℤ → Sheet
put_ceilings s x y = record {
  left = record { network = s.left.network; windows = under x s.left.windows };
  right = record { network = s.right.network; windows = under y s.right.windows };
}
