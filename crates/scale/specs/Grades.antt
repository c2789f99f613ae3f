-- Fit grades: 0 to 15, 15 the finest. Absent is 0. Assumes nothing.
use Rattle.std.specs.Prelude.{if◌then◌else◌, ℤ, pos, Option, int_le}
use Rattle.std.specs.Int.{int_min}
use Rattle.std.specs.Option.{unwrap_or}
use Rattle.scale.specs.Algebra.{Algebra}

abbrev pub grades_product : Option ℤ → ℤ → ℤ
grades_product a x = int_min (unwrap_or a (pos 0)) x

abbrev pub grades_quotient : Option ℤ → ℤ → ℤ
grades_quotient a b = if int_le (unwrap_or a (pos 0)) b then pos 15 else b

abbrev pub grades : Algebra
grades = record {
  lowest = pos 0;
  highest = pos 15;
  least_window = pos 0;
  greatest_window = pos 15;
  least_coefficient = pos 0;
  greatest_coefficient = pos 15;
  product = grades_product;
  quotient = grades_quotient;
}
