-- The calls on a plan: each is a relation between the plan before, the arguments, the answer and the plan after. Assumes nothing.
use Rattle.std.specs.Prelude.{◌≡◌, ℕ, zero, suc, ◌<◌, ◌≤◌, if◌then◌else◌, ◌≢◌, ◌⊎◌, List, [], ◌∷◌, ◌++◌, map, length, ℤ, pos, ◌<ℤ◌, Some, None, Option, int_lt, slice_index_or}
use Rattle.std.specs.Int.{int_min}
use Rattle.scale.specs.Algebra.{Algebra}
use Rattle.network.specs.Networks.{Meaning}
use Rattle.network.specs.Checks.{Answer, accepted, refused, Check, check, Checked}
use Rattle.model.specs.declared.place.Place.{Place}
use Rattle.model.specs.declared.bench.Window.{Window}
use Rattle.model.specs.declared.bench.Bench.{Bench}
use Rattle.model.specs.declared.state.State.{State}
use Rattle.model.specs.declared.state.State.TheVariants.{Open, InStep, Impossible}
use Rattle.model.specs.Plans.{Hall, Model, Rounds}
use Rattle.model.specs.Sheets.{Side, the_left, the_right, new_sheet, own_sheet, fresh, alter, put_both, rewrite_at, put_network}

-- a call with these checks that makes p' of the plan p; refused, it leaves p as it was
abbrev pub Changes : {R : Type 0} → List (Check R) → Model → Model → Answer R → Model → Type 0
Changes cs p p' accepted q = Checked cs accepted × (q ≡ p')
Changes cs p p' (refused r) q = Checked cs (refused r) × (q ≡ p)

-- ---- places: side 0 is left, 1 is right, and benches count from 0

abbrev pub table_of : Model → ℕ → List Bench
table_of p zero = p.left.table
table_of p (suc zero) = p.right.table
table_of p (suc (suc s)) = []

-- what is read where there is no bench
abbrev pub no_bench : Bench
no_bench = record { floor = pos 0; ceiling = pos 0; start = pos 0 }

abbrev pub bench_of : Model → ℕ → ℕ → Bench
bench_of p s i = slice_index_or (table_of p s) i no_bench

abbrev pub change : ℕ → (Bench → Bench) → Hall → Hall
change i f h = record { network = h.network; table = alter i f h.table }

-- the plan with f applied at the bench i of the side s
abbrev pub change_at : Model → ℕ → ℕ → (Bench → Bench) → Model
change_at p zero i f = record { left = change i f p.left; right = p.right; state = p.state }
change_at p (suc zero) i f = record { left = p.left; right = change i f p.right; state = p.state }
change_at p (suc (suc s)) i f = p

abbrev pub in_state : State → Model → Model
in_state t p = record { left = p.left; right = p.right; state = t }

-- ---- faults

abbrev pub NoBench : Model → ℕ → ℕ → Type 0
NoBench p s i = length (table_of p s) ≤ i

-- v is no window value of the scale
abbrev pub NotOfScale : Algebra → ℤ → Type 0
NotOfScale a v = (v <ℤ a.least_window) ⊎ (a.greatest_window <ℤ v)

-- ---- found: a refusal tells its number, and the side and the bench where it is about one

abbrev pub Told : Type 0
Told = ℕ × Option Place

abbrev pub at_bench : ℕ → ℕ → ℕ → Told
at_bench n s i = (n, Some (record { side = s; bench = i }))

abbrev pub window_check : Algebra → ℕ → ℕ → Window → List (Check Told)
window_check a s i w =
    check (at_bench 7 s i) (NotOfScale a w.floor)
    ∷ check (at_bench 7 s i) (NotOfScale a w.ceiling)
    ∷ check (at_bench 8 s i) (w.ceiling <ℤ w.floor)
    ∷ []

abbrev pub window_checks : Algebra → ℕ → ℕ → List Window → List (Check Told)
window_checks a s i [] = []
window_checks a s i (w ∷ ws) = window_check a s i w ++ window_checks a s (suc i) ws

abbrev pub size_checks : Meaning → Meaning → List Window → List Window → List (Check Told)
size_checks l r lws rws =
    check (12, None) (l.stations ≢ r.stations)
    ∷ check (12, None) (length lws ≢ l.benches)
    ∷ check (12, None) (length rws ≢ r.benches)
    ∷ []

abbrev pub found_checks : Algebra → Meaning → Meaning → List Window → List Window → List (Check Told)
found_checks a l r lws rws = size_checks l r lws rws ++ (window_checks a 0 0 lws ++ window_checks a 1 0 rws)

-- the plan q is founded
pub record Founded (a : Algebra) (l r : Meaning) (lws rws : List Window) (q : Model) : Type 0 where
  pub checks : Checked (found_checks a l r lws rws) accepted
  pub fresh_start : q ≡ fresh (new_sheet l r lws rws)

-- ---- lower, raise, loosen

abbrev pub lower_bench : ℤ → Bench → Bench
lower_bench v b = record { floor = b.floor; ceiling = v; start = int_min b.start v }

abbrev pub raise_bench : ℤ → Bench → Bench
raise_bench v b = record { floor = v; ceiling = b.ceiling; start = b.start }

-- the checks on a value that is to be the ceiling, or the floor, of the bench b of a plan in the state t
abbrev pub ceiling_checks : Algebra → State → Bench → ℤ → List (Check ℕ)
ceiling_checks a t b v =
    check 7 (NotOfScale a v)
    ∷ check 11 (b.ceiling <ℤ v)
    ∷ check 8 (v <ℤ b.floor)
    ∷ check 13 (t ≡ Impossible)
    ∷ []

abbrev pub floor_checks : Algebra → State → Bench → ℤ → List (Check ℕ)
floor_checks a t b v =
    check 7 (NotOfScale a v)
    ∷ check 11 (v <ℤ b.floor)
    ∷ check 8 (b.ceiling <ℤ v)
    ∷ check 13 (t ≡ Impossible)
    ∷ []

abbrev pub lower_checks : Algebra → Model → ℕ → ℕ → ℤ → List (Check ℕ)
lower_checks a p s i v = check 10 (NoBench p s i) ∷ ceiling_checks a p.state (bench_of p s i) v

abbrev pub raise_checks : Algebra → Model → ℕ → ℕ → ℤ → List (Check ℕ)
raise_checks a p s i v = check 10 (NoBench p s i) ∷ floor_checks a p.state (bench_of p s i) v

-- a start above the value falls to it, and the plan is then open
abbrev pub lowered : Model → ℕ → ℕ → ℤ → Model
lowered p s i v = in_state (if int_lt v (bench_of p s i).start then Open else p.state) (change_at p s i (lower_bench v))

-- a start below the value makes the plan impossible
abbrev pub raised : Model → ℕ → ℕ → ℤ → Model
raised p s i v = in_state (if int_lt (bench_of p s i).start v then Impossible else p.state) (change_at p s i (raise_bench v))

abbrev pub Lowered : Algebra → Model → ℕ → ℕ → ℤ → Answer ℕ → Model → Type 0
Lowered a p s i v = Changes (lower_checks a p s i v) p (lowered p s i v)

abbrev pub Raised : Algebra → Model → ℕ → ℕ → ℤ → Answer ℕ → Model → Type 0
Raised a p s i v = Changes (raise_checks a p s i v) p (raised p s i v)

abbrev pub window_value_checks : Algebra → ℤ → ℤ → List (Check ℕ)
window_value_checks a f c = check 7 (NotOfScale a f) ∷ check 7 (NotOfScale a c) ∷ []

abbrev pub wider_checks : Bench → ℤ → ℤ → List (Check ℕ)
wider_checks b f c = check 11 (b.floor <ℤ f) ∷ check 11 (c <ℤ b.ceiling) ∷ []

abbrev pub loosen_checks : Algebra → Model → ℕ → ℕ → ℤ → ℤ → List (Check ℕ)
loosen_checks a p s i f c = check 10 (NoBench p s i) ∷ (window_value_checks a f c ++ wider_checks (bench_of p s i) f c)

abbrev pub Loosened : Algebra → Model → ℕ → ℕ → ℤ → ℤ → Answer ℕ → Model → Type 0
Loosened a p s i f c = Changes (loosen_checks a p s i f c) p (fresh (rewrite_at (own_sheet p) s i (put_both f c)))

-- ---- exchange, advance, adopt

abbrev pub hall_of : Model → Side → Hall
hall_of p the_left = p.left
hall_of p the_right = p.right

-- the network m has the size of the network n that stands there
abbrev pub same_size_checks : Meaning → Meaning → List (Check ℕ)
same_size_checks n m = check 12 (m.stations ≢ n.stations) ∷ check 12 (m.benches ≢ n.benches) ∷ []

abbrev pub exchange_checks : Model → Side → Meaning → List (Check ℕ)
exchange_checks p s m = same_size_checks (hall_of p s).network m

abbrev pub Exchanged : Model → Side → Meaning → Answer ℕ → Model → Type 0
Exchanged p s m = Changes (exchange_checks p s m) p (fresh (put_network (own_sheet p) s m))

-- n rounds are granted and k made: it stops where a verdict has fallen, and nowhere else before the last
pub record Advanced (p : Model) (n : ℕ) (t : State) (k : ℕ) (q : Model) : Type 0 where
  pub made : Rounds k p q
  pub granted : k ≤ n
  pub stops : k < n → ¬ (q.state ≡ Open)
  pub told : t ≡ q.state

abbrev pub adopt_bench : Bench → Bench
adopt_bench b = record { floor = b.floor; ceiling = b.start; start = b.start }

abbrev pub adopt_hall : Hall → Hall
adopt_hall h = record { network = h.network; table = map adopt_bench h.table }

abbrev pub adopted : Model → Model
adopted p = record { left = adopt_hall p.left; right = adopt_hall p.right; state = p.state }

abbrev pub Adopted : Model → Answer ℕ → Model → Type 0
Adopted p = Changes (check 14 (¬ (p.state ≡ InStep)) ∷ []) p (adopted p)

-- ---- readings, which change nothing

abbrev pub place_checks : Model → ℕ → ℕ → List (Check ℕ)
place_checks p s i = check 10 (NoBench p s i) ∷ []

-- m and n are the lengths of the two lists that the starts are written into
abbrev pub starts_checks : Model → ℕ → ℕ → List (Check ℕ)
starts_checks p m n =
    check 12 (m ≢ length p.left.table)
    ∷ check 12 (n ≢ length p.right.table)
    ∷ check 14 (¬ (p.state ≡ InStep))
    ∷ []
