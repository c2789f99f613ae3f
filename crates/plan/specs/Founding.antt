-- What founding a plan answers. Assumes nothing.
use Rattle.std.specs.Prelude.{◌≡◌, List, Ok, Err, Result}
use Rattle.scale.specs.declared.scale.Scale.{Ghosts as ScaleGhosts}
use Rattle.network.specs.Checks.{refused, Checked}
use Rattle.network.specs.declared.network.Network.{Ghosts as NetworkGhosts}
use Rattle.model.specs.declared.bench.Window.{Window}
use Rattle.model.specs.Calls.{found_checks, Founded}
use Rattle.benches.specs.Answers.{told}
use Rattle.plan.specs.declared.plan.Plan.{Plan}
use Rattle.plan.specs.declared.founding.Unfounded.{Unfounded}
use Rattle.plan.specs.Models.{model}
use Rattle.plan.specs.Standing.{Stand}

-- a plan over these networks at a fresh start; or the first fault, and both networks back
abbrev pub Founds :
    {L R S : Type 0} {a : NetworkGhosts L S} {s : ScaleGhosts S} {b : NetworkGhosts R S} → L → R → List Window → List Window
    → Result (Plan L R S a s b) (Unfounded L R) → Type 0
Founds {a = a} {s = s} {b = b} l r lws rws (Ok p) = Founded s.algebra (a.meaning l) (b.meaning r) lws rws (model p) × Stand l r p
Founds {a = a} {s = s} {b = b} l r lws rws (Err u) =
    Checked (found_checks s.algebra (a.meaning l) (b.meaning r) lws rws) (refused (told u.fault)) × (u.left ≡ l) × (u.right ≡ r)
