-- The words for a state. Assumes nothing.
use Rattle.std.specs.Prelude.{ℕ, List, codes}
use Rattle.model.specs.declared.state.State.{State}
use Rattle.model.specs.declared.state.State.TheVariants.{Open, InStep, Impossible}

abbrev pub words : State → List ℕ
words Open = codes "open"
words InStep = codes "in step"
words Impossible = codes "impossible"
