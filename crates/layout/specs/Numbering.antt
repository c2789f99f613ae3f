-- The number of each part of a file. Assumes nothing.
use Rattle.std.specs.Prelude.{ℕ}
use Rattle.layout.specs.declared.part.Part.{Part}
use Rattle.layout.specs.declared.part.Part.TheVariants.{Head, LeftNetwork, RightNetwork, LeftWindows, RightWindows, Extra}

abbrev pub part_number : Part → ℕ
part_number Head = 0
part_number LeftNetwork = 1
part_number RightNetwork = 2
part_number LeftWindows = 3
part_number RightWindows = 4
part_number Extra = 5
