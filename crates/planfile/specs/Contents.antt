-- What reading a plan file hands over. Assumes nothing.
use Rattle.std.specs.Prelude.{ℕ, if◌then◌else◌, Ok, Err, Result, nat_lt}
use Rattle.layout.specs.Faults.{FileFault}
use Rattle.planfile.specs.declared.lists.Lists.{Lists}
use Rattle.planfile.specs.Files.{Description, extra}
use Rattle.planfile.specs.Handed.{windows_in}
use Rattle.planfile.specs.Sound.{plain}

-- what the lists of a file say
abbrev pub said : Lists → Description
said x = record {
  head = plain x.head;
  left = x.left.items;
  right = x.right.items;
  lefts = windows_in x.lefts;
  rights = windows_in x.rights;
}

-- the answer at offset q of a file of n bytes that should end there
abbrev pub ending : ℕ → ℕ → Result Unit FileFault
ending n q = if nat_lt q n then Err (extra q) else Ok tt
