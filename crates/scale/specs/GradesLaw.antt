-- Fit grades keep the law of scales. Assumes nothing.
use Rattle.std.specs.Prelude.{◌↔◌, cond, ℤ, pos, ◌≤ℤ◌, Some, None, Option, int_le}
use Rattle.std.specs.Int.{int_min}
use Rattle.std.specs.Option.{unwrap_or}
use Rattle.std.proofs.Common.{arith}
use Rattle.std.proofs.lemmas.Int.{ints}
use Rattle.scale.specs.Algebra.{LawfulScale, Value, Coefficient}
use Rattle.scale.specs.Grades.{grades}

-- ---- of the coefficient only what it is worth matters, 0 where it is absent

worth : (a : Option ℤ) → Coefficient grades a → pos 0 ≤ℤ unwrap_or a (pos 0)
worth None c = omega (arith, ints)
worth (Some a) c = c.0

smaller_value : (m x : ℤ) → pos 0 ≤ℤ m → Value grades x → Value grades (int_min m x)
smaller_value m x l v =
    let vl = v.above in
    let vh = v.below in
    record { above = grind (arith, ints); below = grind (arith, ints) }

finest_or_value : (m b : ℤ) → Value grades b → Value grades (cond (int_le m b) (pos 15) b)
finest_or_value m b v =
    let vl = v.above in
    let vh = v.below in
    record { above = grind (arith, ints); below = grind (arith, ints) }

smaller_residuated : (m x b : ℤ) → Value grades x → (int_min m x ≤ℤ b) ↔ (x ≤ℤ cond (int_le m b) (pos 15) b)
smaller_residuated m x b v =
    let vl = v.above in
    let vh = v.below in
    ((λ e. grind (arith, ints)), (λ e. grind (arith, ints)))

pub grades_lawful : LawfulScale grades
grades_lawful = record {
  lowest_limit = omega (arith, ints);
  highest_limit = omega (arith, ints);
  least_coefficient_limit = omega (arith, ints);
  greatest_coefficient_limit = omega (arith, ints);
  least_window = record { above = omega (arith, ints); below = omega (arith, ints) };
  greatest_window = record { above = omega (arith, ints); below = omega (arith, ints) };
  absent_product = λ x v. let l = v.above in grind (arith, ints);
  absent_quotient = λ b v. let l = v.above in grind (arith, ints);
  product_value = λ a x c v. smaller_value (unwrap_or a (pos 0)) x (worth a c) v;
  quotient_value = λ a b c v. finest_or_value (unwrap_or a (pos 0)) b v;
  residuated = λ a x b c v w. smaller_residuated (unwrap_or a (pos 0)) x b v;
}
