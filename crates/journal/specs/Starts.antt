-- The starts of one side. Assumes nothing.
use Rattle.std.specs.Prelude.{List, take, ℤ}
use Rattle.journal.specs.declared.start_list.StartList.{StartList}

abbrev pub starts_in : StartList → List ℤ
starts_in s = take s.count s.places
