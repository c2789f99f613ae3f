-- What a plan of the code stands for. Assumes nothing.
use Rattle.scale.specs.declared.scale.Scale.{Ghosts as ScaleGhosts}
use Rattle.network.specs.declared.network.Network.{Ghosts as NetworkGhosts}
use Rattle.model.specs.Plans.{Model}
use Rattle.benches.specs.Halves.{hall}
use Rattle.plan.specs.declared.plan.Plan.{Plan}

-- its halls, by the meanings of their networks, and its state
abbrev pub model : {L R S : Type 0} {l : NetworkGhosts L S} {s : ScaleGhosts S} {r : NetworkGhosts R S} → Plan L R S l s r → Model
model p = record { left = hall p.left; right = hall p.right; state = p.state }
