-- Lists of whole numbers, place by place. Assumes nothing.
use Rattle.std.specs.Prelude.{◌≡◌, ℕ, List, [], ◌∷◌, map, length, ℤ, pos, ◌≤ℤ◌, slice_index_or}
use Rattle.std.specs.List.{AllZip, range_with_len}
use Rattle.scale.specs.Algebra.{Algebra, Value}

-- what stands at a place
abbrev pub at : List ℤ → ℕ → ℤ
at xs k = slice_index_or xs k (pos 0)

-- the list f 0 .. f (n - 1)
abbrev pub listed : (ℕ → ℤ) → ℕ → List ℤ
listed f n = map f (range_with_len 0 n)

-- xs is as long as ys, and nowhere above it
infix 50 ◌≼◌
abbrev pub ◌≼◌ : List ℤ → List ℤ → Type 0
xs ≼ ys = AllZip (λ x y. x ≤ℤ y) xs ys

-- every number of the list is a value of the scale
abbrev pub Values : Algebra → List ℤ → Type 0
Values s [] = Unit {0}
Values s (x ∷ xs) = Value s x × Values s xs

-- one value of the scale for each of n places
pub record Row (s : Algebra) (n : ℕ) (xs : List ℤ) : Type 0 where
  pub count : length xs ≡ n
  pub values : Values s xs
