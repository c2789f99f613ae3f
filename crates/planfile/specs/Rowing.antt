-- Rows that are asked for, in the file's order. Assumes nothing.
use Rattle.std.specs.Prelude.{◌≡◌, ℕ, ◌+◌, ◌-◌, ◌*◌, if◌then◌else◌, List, take, drop, Some, None, Ok, Err, Option, Result, count_ones, nat_lt}
use Rattle.layout.specs.declared.part.Part.TheVariants.{LeftNetwork, RightNetwork}
use Rattle.layout.specs.Faults.{FileFault, on_line, in_part}
use Rattle.layout.specs.Layouts.{reached, refused, reads, told}
use Rattle.planfile.specs.declared.heads.Head.{Head}
use Rattle.planfile.specs.declared.heads.SoundHead.{SoundHead}
use Rattle.planfile.specs.declared.asked.RowPlace.{RowPlace}
use Rattle.planfile.specs.declared.asked.Row.{Row}
use Rattle.planfile.specs.declared.asked.Reader.{Reader}
use Rattle.planfile.specs.Heads.{head_of, head_part}
use Rattle.planfile.specs.Sound.{plain}
use Rattle.planfile.specs.Asks.{asked_row}

-- the place of the row after k rows: the left network's rows, then the right network's, then none
abbrev pub next_row : Head → ℕ → Option RowPlace
next_row h k =
    if nat_lt k h.stations then Some (record { part = LeftNetwork; line = k; benches = h.left })
    else if nat_lt k (2 * h.stations) then Some (record { part = RightNetwork; line = k - h.stations; benches = h.right })
    else None

-- the head that is accepted, or none
abbrev pub accepted : Option SoundHead → Option Head
accepted None = None
accepted (Some h) = Some (plain h)

abbrev pub row_behind : Option Head → ℕ → Option RowPlace
row_behind None k = None
row_behind (Some h) k = next_row h k

-- the place of the reader's next row: none until a head is accepted
abbrev pub next_place : Reader → Option RowPlace
next_place r = row_behind (accepted r.head) r.passed

-- a reader over the file, with no row to hand out
pub record Opened (file : List ℕ) (r : Reader) : Type 0 where
  pub bytes : r.bytes.now ≡ file
  pub none : next_place r ≡ None

-- the reader is as it was
pub record Stays (before after : Reader) : Type 0 where
  pub bytes : after.bytes.now ≡ before.bytes.now
  pub head : after.head ≡ before.head
  pub at : after.at ≡ before.at
  pub passed : after.passed ≡ before.passed

-- the reader is at the first row behind the head h
pub record Ready (before after : Reader) (h : Head) : Type 0 where
  pub bytes : after.bytes.now ≡ before.bytes.now
  pub read : reads head_of before.bytes.now 0 ≡ reached h 5
  pub head : accepted after.head ≡ Some h
  pub at : after.at ≡ 5
  pub passed : after.passed ≡ 0

abbrev pub Accepted : Reader → Reader → Result Head FileFault → Type 0
Accepted before after (Ok h) = Ready before after h
Accepted before after (Err f) = (reads head_part before.bytes.now 0 ≡ refused f) × Stays before after

-- the row at the reader's place is handed out, and the reader goes behind it
pub record Handed (before after : Reader) (row : Row) : Type 0 where
  pub bytes : after.bytes.now ≡ before.bytes.now
  pub head : after.head ≡ before.head
  pub place : next_place before ≡ Some row.place
  pub byte : row.byte ≡ before.at
  pub read : reads (asked_row row.place.benches) before.bytes.now before.at ≡ reached row.map after.at
  pub fields : row.fields.now ≡ take (4 * count_ones row.map) (drop (before.at + 4) before.bytes.now)
  pub passed : after.passed ≡ before.passed + 1

-- the row at the reader's place is turned away, and the reader is as it was
pub record TurnedAway (before after : Reader) (f : FileFault) : Type 0 where
  pub stays : Stays before after
  pub place : RowPlace
  pub is_next : next_place before ≡ Some place
  pub fault : reads (told (in_part place.part) (told (on_line place.line) (asked_row place.benches))) before.bytes.now before.at ≡ refused f

abbrev pub Asked : Reader → Reader → Result (Option Row) FileFault → Type 0
Asked before after (Ok None) = (next_place before ≡ None) × Stays before after
Asked before after (Ok (Some row)) = Handed before after row
Asked before after (Err f) = TurnedAway before after f
