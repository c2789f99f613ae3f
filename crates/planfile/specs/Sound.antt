-- The head of a file that is accepted, with its sizes as numbers. Assumes nothing.
use Rattle.planfile.specs.declared.heads.Head.{Head}
use Rattle.planfile.specs.declared.heads.SoundHead.{SoundHead}

abbrev pub plain : SoundHead → Head
plain h = record { scale = h.scale; stations = h.stations.number; left = h.left.number; right = h.right.number }
