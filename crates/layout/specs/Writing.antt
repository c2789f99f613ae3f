-- What it means that a file follows a layout, by writing: the numbers of the fields are written one after another. Assumes nothing.
use Rattle.std.specs.Prelude.{ℕ, zero, suc, ◌+◌, ◌/◌, ◌%◌, ◌^◌, ◌<◌, List, [], ◌∷◌, ◌++◌, length, slice_index}
use Rattle.layout.specs.Layouts.{Layout, gives, fails, field}

-- v in w bytes, the first byte worth most
unfoldable pub bytes_of : ℕ → ℕ → List ℕ
bytes_of zero v = []
bytes_of (suc w) v = bytes_of w (v / 256) ++ v % 256 ∷ []

-- the bytes, which begin at offset p, are the fields of the layout one after another, and the layout gives a
pub data Lays {F A : Type 0} : Layout F A → ℕ → List ℕ → A → Type 0 where
  no_field : {a : A} {p : ℕ} → Lays (gives a) p [] a
  one_field :
      {w : ℕ} {short : ℕ → F} {next : ℕ → ℕ → Layout F A} {p : ℕ} {rest : List ℕ} {a : A} (v : ℕ) → v < 256 ^ w → Lays (next p v) (p + w) rest a
      → Lays (field w short next) p (bytes_of w v ++ rest) a

-- f is the first fault of the bytes, which begin at offset p: all fields before it are written and give no fault
pub data Breaks {F A : Type 0} : Layout F A → ℕ → List ℕ → F → Type 0 where
  wrong : {f : F} {p : ℕ} {bytes : List ℕ} → Breaks (fails f) p bytes f
  cut :
      {w : ℕ} {short : ℕ → F} {next : ℕ → ℕ → Layout F A} {p : ℕ} {bytes : List ℕ} → length bytes < w
      → Breaks (field w short next) p bytes (short p)
  later :
      {w : ℕ} {short : ℕ → F} {next : ℕ → ℕ → Layout F A} {p : ℕ} {rest : List ℕ} {f : F} (v : ℕ) → v < 256 ^ w → Breaks (next p v) (p + w) rest f
      → Breaks (field w short next) p (bytes_of w v ++ rest) f

-- every element is a byte
abbrev pub Bytes : List ℕ → Type 0
Bytes file = (i : ℕ) → slice_index file i < 256
