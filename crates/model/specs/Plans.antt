-- A plan and its rounds. Assumes nothing.
use Rattle.std.specs.Prelude.{◌≡◌, ℕ, zero, suc, Bool, if◌then◌else◌, ◌&&◌, ◌||◌, List, [], ◌∷◌, map, ℤ, pos, ◌+ℤ◌, ◌-ℤ◌, int_lt}
use Rattle.std.specs.Int.{int_min}
use Rattle.std.specs.List.{list_any}
use Rattle.std.specs.Ordering.{int_eq}
use lib.Pointwise.{pointwise}
use Rattle.network.specs.Networks.{Meaning}
use Rattle.model.specs.declared.bench.Bench.{Bench}
use Rattle.model.specs.declared.state.State.{State}
use Rattle.model.specs.declared.state.State.TheVariants.{Open, InStep, Impossible}

-- one side of a plan: its network, and the records of its benches
pub record Hall : Type 0 where
  pub network : Meaning
  pub table : List Bench

pub record Model : Type 0 where
  pub left : Hall
  pub right : Hall
  pub state : State

abbrev pub starts : List Bench → List ℤ
starts bs = map (λ (b : Bench). b.start) bs

-- ---- one round

-- each start becomes the smaller of itself and its limit
abbrev pub cut : List Bench → List ℤ → List Bench
cut [] vs = []
cut (b ∷ bs) [] = b ∷ bs
cut (b ∷ bs) (v ∷ vs) = record { floor = b.floor; ceiling = b.ceiling; start = int_min b.start v } ∷ cut bs vs

-- a hall cut to the latest starts at which it arrives no later than the other
abbrev pub cut_by : Hall → Hall → Hall
cut_by hall other = record {
  network = hall.network;
  table = cut hall.table (hall.network.latest (other.network.arrivals (starts other.table)));
}

-- some start lies below its floor
abbrev pub fallen : List Bench → Bool
fallen bs = list_any (λ (b : Bench). int_lt b.start b.floor) bs

-- the two lists are the same
abbrev pub same_list : List ℤ → List ℤ → Bool
same_list xs ys = pointwise int_eq xs ys

-- no start changed
abbrev pub unmoved : Hall → Hall → Bool
unmoved before after = same_list (starts before.table) (starts after.table)

abbrev pub verdict : Bool → Bool → State
verdict fell rests = if fell then Impossible else if rests then InStep else Open

-- the plan p with its halls cut to l and r, and the verdict on them
abbrev pub judged : Model → Hall → Hall → Model
judged p l r = record {
  left = l;
  right = r;
  state = verdict (fallen l.table || fallen r.table) (unmoved p.left l && unmoved p.right r);
}

-- one round: the right starts are cut by the left arrivals, then the left starts by the new right arrivals
unfoldable pub round : Model → Model
round p = judged p (cut_by p.left (cut_by p.right p.left)) (cut_by p.right p.left)

-- k rounds, each of them on an open plan, lead from p to q
abbrev pub Rounds : ℕ → Model → Model → Type 0
Rounds zero p q = q ≡ p
Rounds (suc k) p q = (p.state ≡ Open) × Rounds k (round p) q

-- ---- slack: start minus floor over all benches, 0 for an impossible plan

abbrev pub spare : List Bench → ℤ
spare [] = pos 0
spare (b ∷ bs) = (b.start -ℤ b.floor) +ℤ spare bs

abbrev pub slack_in : State → Model → ℤ
slack_in Open p = spare p.left.table +ℤ spare p.right.table
slack_in InStep p = spare p.left.table +ℤ spare p.right.table
slack_in Impossible p = pos 0

abbrev pub slack : Model → ℤ
slack p = slack_in p.state p
