-- Which coefficients are present. Assumes nothing.
use Rattle.std.specs.Prelude.{◌≡◌, ◌&&◌, ℤ, pos, int_le}
use Rattle.scale.specs.Algebra.{of_scale, present}
use Rattle.scale.specs.Minutes.{minutes}
use Rattle.scale.specs.Grades.{grades}

-- of minutes every coefficient in the range, of grades all but 0
pub record Presence : Type 0 where
  pub of_minutes : (a : ℤ) → present minutes a ≡ of_scale minutes a
  pub of_grades : (a : ℤ) → present grades a ≡ (int_le (pos 1) a && int_le a (pos 15))
