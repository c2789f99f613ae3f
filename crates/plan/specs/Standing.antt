-- Which networks stand in a plan, as values. Assumes nothing.
use Rattle.std.specs.Prelude.{◌≡◌, Ok, Err, Result}
use Rattle.scale.specs.declared.scale.Scale.{Ghosts as ScaleGhosts}
use Rattle.network.specs.declared.network.Network.{Ghosts as NetworkGhosts}
use Rattle.plan.specs.declared.plan.Plan.{Plan}
use Rattle.plan.specs.declared.exchanged.Unexchanged.{Unexchanged}

-- x stands on the left of the plan p, and y on the right
pub record Stand {L R S : Type 0} {l : NetworkGhosts L S} {s : ScaleGhosts S} {r : NetworkGhosts R S} (x : L) (y : R) (p : Plan L R S l s r) : Type 0 where
  pub left : p.left.network ≡ x
  pub right : p.right.network ≡ y

-- the networks of p stand in q
abbrev pub SameNetworks : {L R S : Type 0} {l : NetworkGhosts L S} {s : ScaleGhosts S} {r : NetworkGhosts R S} → Plan L R S l s r → Plan L R S l s r → Type 0
SameNetworks p q = Stand p.left.network p.right.network q

-- what stands on a side after an exchange: the offered network where it was taken, and else the old one
abbrev pub standing : {N : Type 0} → N → N → Result N (Unexchanged N) → N
standing old offered (Ok n) = offered
standing old offered (Err e) = old
