-- A plan file by writing: what stands in it, field by field. Assumes nothing of how it is read.
use Rattle.std.specs.Prelude.{◌≡◌, ℕ, ◌+◌, ◌-◌, ◌*◌, ◌^◌, ◌<◌, ◌⊎◌, List, [], ◌∷◌, ◌++◌, map, length, ℤ, pos, negsuc, ◌≤ℤ◌, Some, None, Option}
use Rattle.std.specs.Option.{unwrap_or}
use Rattle.network.specs.Networks.{Size}
use Rattle.layout.specs.declared.bounds.Bounds.{Bounds}
use Rattle.layout.specs.Faults.{FileFault}
use Rattle.layout.specs.Writing.{bytes_of, Breaks}
use Rattle.model.specs.declared.bench.Window.{Window}
use Rattle.planfile.specs.declared.heads.ScaleKind.{ScaleKind}
use Rattle.planfile.specs.declared.heads.ScaleKind.TheVariants.{Minutes, Grades}
use Rattle.planfile.specs.Windows.{window}
use Rattle.planfile.specs.Files.{Description, scale_of, coefficients, window_values, file_of, extra}

-- a window as it is written: a floor, a ceiling, both or none
pub record Limits : Type 0 where
  pub floor : Option ℤ
  pub ceiling : Option ℤ

-- what stands in a plan file: a row of cells for each station, and the limits of each bench
pub record Document : Type 0 where
  pub scale : ScaleKind
  pub left : List (List (Option ℤ))
  pub right : List (List (Option ℤ))
  pub lefts : List Limits
  pub rights : List Limits

-- ---- written down

-- a number in two's complement of 32 bits
abbrev pub complement : ℤ → ℕ
complement (pos n) = n
complement (negsuc n) = 2 ^ 32 - 1 - n

-- which of the things are there: the first is worth 1, the next 2, and so on
abbrev pub map_number : List (Option ℤ) → ℕ
map_number [] = 0
map_number (None ∷ cs) = 2 * map_number cs
map_number (Some a ∷ cs) = 1 + 2 * map_number cs

-- the numbers that are there, four bytes each
abbrev pub numbers : List (Option ℤ) → List ℕ
numbers [] = []
numbers (None ∷ cs) = numbers cs
numbers (Some a ∷ cs) = bytes_of 4 (complement a) ++ numbers cs

abbrev pub row_written : List (Option ℤ) → List ℕ
row_written cs = bytes_of 4 (map_number cs) ++ numbers cs

abbrev pub rows_written : List (List (Option ℤ)) → List ℕ
rows_written [] = []
rows_written (cs ∷ rows) = row_written cs ++ rows_written rows

-- the map byte: 1 for the floor, 2 for the ceiling
abbrev pub window_written : Limits → List ℕ
window_written l = map_number (l.floor ∷ l.ceiling ∷ []) ∷ numbers (l.floor ∷ l.ceiling ∷ [])

abbrev pub windows_written : List Limits → List ℕ
windows_written [] = []
windows_written (l ∷ ls) = window_written l ++ windows_written ls

abbrev pub scale_byte : ScaleKind → ℕ
scale_byte Minutes = 1
scale_byte Grades = 2

-- edition 1
abbrev pub written : Document → List ℕ
written d =
    1 ∷ scale_byte d.scale ∷ length d.left ∷ length d.lefts ∷ length d.rights
    ∷ (rows_written d.left ++ (rows_written d.right ++ (windows_written d.lefts ++ windows_written d.rights)))

-- ---- sound

-- a number that is not there, or one within bounds
abbrev pub Bounded : Bounds → Option ℤ → Type 0
Bounded b None = Unit {0}
Bounded b (Some a) = (b.least ≤ℤ a) × (a ≤ℤ b.greatest)

abbrev pub BoundedCells : Bounds → List (Option ℤ) → Type 0
BoundedCells b [] = Unit {0}
BoundedCells b (c ∷ cs) = Bounded b c × BoundedCells b cs

-- rows of n cells each
abbrev pub SoundRows : Bounds → ℕ → List (List (Option ℤ)) → Type 0
SoundRows b n [] = Unit {0}
SoundRows b n (cs ∷ rows) = (length cs ≡ n) × BoundedCells b cs × SoundRows b n rows

-- a floor that is not written is the least window value, a ceiling the greatest
abbrev pub filled : Bounds → Limits → Window
filled b l = window (unwrap_or l.floor b.least) (unwrap_or l.ceiling b.greatest)

abbrev pub SoundWindows : Bounds → List Limits → Type 0
SoundWindows b [] = Unit {0}
SoundWindows b (l ∷ ls) = Bounded b l.floor × Bounded b l.ceiling × ((filled b l).floor ≤ℤ (filled b l).ceiling) × SoundWindows b ls

pub record Sound (d : Document) : Type 0 where
  pub stations : Size (length d.left)
  pub level : length d.right ≡ length d.left
  pub left_benches : Size (length d.lefts)
  pub right_benches : Size (length d.rights)
  pub left_rows : SoundRows (coefficients (scale_of d.scale)) (length d.lefts) d.left
  pub right_rows : SoundRows (coefficients (scale_of d.scale)) (length d.rights) d.right
  pub left_windows : SoundWindows (window_values (scale_of d.scale)) d.lefts
  pub right_windows : SoundWindows (window_values (scale_of d.scale)) d.rights

-- ---- what a document says

abbrev pub joined : {A : Type 0} → List (List A) → List A
joined [] = []
joined (xs ∷ rows) = xs ++ joined rows

abbrev pub described : Document → Description
described d = record {
  head = record { scale = d.scale; stations = length d.left; left = length d.lefts; right = length d.rights };
  left = joined d.left;
  right = joined d.right;
  lefts = map (filled (window_values (scale_of d.scale))) d.lefts;
  rights = map (filled (window_values (scale_of d.scale))) d.rights;
}

-- the file is a sound document written down, which says what is described
abbrev pub Writes : List ℕ → Description → Type 0
Writes file p = (d : Document) × Sound d × (written d ≡ file) × (described d ≡ p)

-- f is the first fault of the file: of a field, after fields that are written and have none; or the file goes on after a document
abbrev pub FirstFault : List ℕ → FileFault → Type 0
FirstFault file f = Breaks file_of 0 file f ⊎ ((d : Document) × (rest : List ℕ) × Sound d × (0 < length rest) × (written d ++ rest ≡ file) × (f ≡ extra (length (written d))))
