-- What a scale is: a range of whole numbers with its limits, and a product and a quotient that undo each other. Assumes nothing.
use Rattle.std.specs.Prelude.{◌≡◌, Bool, if◌then◌else◌, ◌&&◌, T, ◌↔◌, ℤ, pos, negsuc, ◌≤ℤ◌, Some, None, Option, int_le, int_lt}
use Rattle.std.specs.Int.{int_max, int_min}

-- The numbers of a scale and its two operations. A coefficient may be absent.
pub record Algebra : Type 0 where
  pub lowest : ℤ
  pub highest : ℤ
  pub least_window : ℤ
  pub greatest_window : ℤ
  pub least_coefficient : ℤ
  pub greatest_coefficient : ℤ
  -- a ⊗ x
  pub product : Option ℤ → ℤ → ℤ
  -- a \ b
  pub quotient : Option ℤ → ℤ → ℤ

-- the constants of a scale's code are its numbers
pub record Numbers (s : Algebra) (lowest highest least_window greatest_window least_coefficient greatest_coefficient : ℤ) : Type 0 where
  pub lowest_is : s.lowest ≡ lowest
  pub highest_is : s.highest ≡ highest
  pub least_window_is : s.least_window ≡ least_window
  pub greatest_window_is : s.greatest_window ≡ greatest_window
  pub least_coefficient_is : s.least_coefficient ≡ least_coefficient
  pub greatest_coefficient_is : s.greatest_coefficient ≡ greatest_coefficient

-- z is a value of the scale
pub record Value (s : Algebra) (z : ℤ) : Type 0 where
  pub above : s.lowest ≤ℤ z
  pub below : z ≤ℤ s.highest

-- a is absent, or in the coefficient range
abbrev pub Coefficient : Algebra → Option ℤ → Type 0
Coefficient s None = Unit {0}
Coefficient s (Some a) = (s.least_coefficient ≤ℤ a) × (a ≤ℤ s.greatest_coefficient)

-- What every scale owes.
pub record LawfulScale (s : Algebra) : Type 0 where
  pub lowest_limit : negsuc 1_000_000_000 ≤ℤ s.lowest
  pub highest_limit : s.highest ≤ℤ pos 1_000_000_001
  pub least_coefficient_limit : negsuc 1_000_000_000 ≤ℤ s.least_coefficient
  pub greatest_coefficient_limit : s.greatest_coefficient ≤ℤ pos 1_000_000_001
  pub least_window : Value s s.least_window
  pub greatest_window : Value s s.greatest_window
  pub absent_product : (x : ℤ) → Value s x → s.product None x ≡ s.lowest
  pub absent_quotient : (b : ℤ) → Value s b → s.quotient None b ≡ s.highest
  pub product_value : (a : Option ℤ) (x : ℤ) → Coefficient s a → Value s x → Value s (s.product a x)
  pub quotient_value : (a : Option ℤ) (b : ℤ) → Coefficient s a → Value s b → Value s (s.quotient a b)
  -- a ⊗ x ≤ b exactly when x ≤ a \ b
  pub residuated : (a : Option ℤ) (x b : ℤ) → Coefficient s a → Value s x → Value s b →
      (s.product a x ≤ℤ b) ↔ (x ≤ℤ s.quotient a b)

-- ---- every coefficient and every value

-- z, or the nearer end of low .. high
abbrev pub clamped : ℤ → ℤ → ℤ → ℤ
clamped low high z = int_max low (int_min z high)

-- a value outside the range counts as the nearer end
abbrev pub held : Algebra → ℤ → ℤ
held s z = clamped s.lowest s.highest z

-- a is in the coefficient range
abbrev pub of_scale : Algebra → ℤ → Bool
of_scale s a = int_le s.least_coefficient a && int_le a s.greatest_coefficient

-- a is in the coefficient range, and not every product with it is the lowest value (the highest value has the largest product)
abbrev pub present : Algebra → ℤ → Bool
present s a = int_lt s.lowest (s.product (Some a) s.highest) && of_scale s a

-- a coefficient that is not present counts as absent
abbrev pub counted : Algebra → Option ℤ → Option ℤ
counted s None = None
counted s (Some a) = if present s a then Some a else None

-- the product and the quotient of every coefficient and value
abbrev pub product_of : Algebra → Option ℤ → ℤ → ℤ
product_of s a x = s.product (counted s a) (held s x)

abbrev pub quotient_of : Algebra → Option ℤ → ℤ → ℤ
quotient_of s a b = s.quotient (counted s a) (held s b)

-- ---- what generic functions answer

-- whether a value x, taken over the coefficient a, is at most b: by the product, and by the quotient
pub record InTime (s : Algebra) (a : Option ℤ) (x b : ℤ) (answer : Bool) : Type 0 where
  pub by_product : T answer ↔ (product_of s a x ≤ℤ b)
  pub by_quotient : Value s x → Value s b → T answer ↔ (x ≤ℤ quotient_of s a b)
