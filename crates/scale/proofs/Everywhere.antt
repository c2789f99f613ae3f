-- What the law of a scale gives at every coefficient. Assumes nothing.
use Rattle.std.proofs.Common.{◌≡◌, Bool, true, false, cond, ◌&&◌, T, ◌↔◌, ℤ, ◌≤ℤ◌, Some, None, Option, sym, refl, subst, arith}
use lib.Signed.{le_z, lt_z}
use Rattle.std.proofs.lemmas.Int.{ints, clamps}
use Rattle.scale.proofs.Integers.{≤_trans}
use Rattle.scale.specs.Algebra.{Algebra, LawfulScale, Value, Coefficient, clamped, held, of_scale, present, counted, product_of, quotient_of, InTime}

pub clamped_above : (low high z : ℤ) → low ≤ℤ high → low ≤ℤ clamped low high z
clamped_above low high z h = omega (arith, ints, clamps)

pub clamped_below : (low high z : ℤ) → low ≤ℤ high → clamped low high z ≤ℤ high
clamped_below low high z h = omega (arith, ints, clamps)

pub clamped_same : (low high z : ℤ) → low ≤ℤ z → z ≤ℤ high → clamped low high z ≡ z
clamped_same low high z l h = omega (arith, ints, clamps)

module _ (s : Algebra) (ok : LawfulScale s) where
  pub ordered : s.lowest ≤ℤ s.highest
  ordered = ≤_trans _ _ _ ok.least_window.above ok.least_window.below

  pub lowest_value : Value s s.lowest
  lowest_value = record { above = omega (arith, ints); below = ordered }

  pub highest_value : Value s s.highest
  highest_value = record { above = ordered; below = omega (arith, ints) }

  pub held_value : (z : ℤ) → Value s (held s z)
  held_value z = record { above = clamped_above _ _ z ordered; below = clamped_below _ _ z ordered }

  pub held_same : (z : ℤ) → Value s z → held s z ≡ z
  held_same z v = clamped_same _ _ z v.above v.below

  counted_coefficient : (a : Option ℤ) → Coefficient s (counted s a)
  counted_coefficient None = tt
  counted_coefficient (Some a) = chosen (present s a) refl
    where
      chosen : (b : Bool) → present s a ≡ b → Coefficient s (cond b (Some a) None)
      chosen true e = (grind (arith, ints), grind (arith, ints))
      chosen false e = tt

  pub product_of_value : (a : Option ℤ) (x : ℤ) → Value s (product_of s a x)
  product_of_value a x = ok.product_value _ _ (counted_coefficient a) (held_value x)

  pub quotient_of_value : (a : Option ℤ) (b : ℤ) → Value s (quotient_of s a b)
  quotient_of_value a b = ok.quotient_value _ _ (counted_coefficient a) (held_value b)

  -- the law at every coefficient
  pub residuated_of : (a : Option ℤ) (x b : ℤ) → Value s x → Value s b → (product_of s a x ≤ℤ b) ↔ (x ≤ℤ quotient_of s a b)
  residuated_of a x b v w =
      let c = counted s a in
      let law = ok.residuated c x b (counted_coefficient a) v w in
      let e = held_same x v in
      let f = held_same b w in (
        (λ h. subst (λ z. x ≤ℤ s.quotient c z) (sym f) (law.0 (subst (λ z. s.product c z ≤ℤ b) e h))),
        (λ h. subst (λ z. s.product c z ≤ℤ b) (sym e) (law.1 (subst (λ z. x ≤ℤ s.quotient c z) f h))),
      )

  -- a coefficient that is not present has the lowest product
  pub present_is : (a : ℤ) → present s a ≡ lt_z s.lowest (product_of s (Some a) s.highest)
  present_is a = chosen (present s a) refl
    where
      high : held s s.highest ≡ s.highest
      high = held_same s.highest highest_value

      first : (b c : Bool) → (b && c) ≡ true → b ≡ true
      first true c e = refl
      first false c e = e

      chosen : (b : Bool) → present s a ≡ b → b ≡ lt_z s.lowest (s.product (cond b (Some a) None) (held s s.highest))
      chosen true e = rw high (sym (first (lt_z s.lowest (s.product (Some a) s.highest)) (of_scale s a) e))
      chosen false e = rw (high, ok.absent_product s.highest highest_value) (grind (arith, ints))

  -- a test of the product decides the law's both sides
  pub in_time : (a : Option ℤ) (x b : ℤ) → InTime s a x b (le_z (product_of s a x) b)
  in_time a x b = record {
    by_product = tells;
    by_quotient = λ v w.
        let law = residuated_of a x b v w in
        ((λ t. law.0 (tells.0 t)), (λ h. tells.1 (law.1 h)));
  }
    where
      tells : T (le_z (product_of s a x) b) ↔ (product_of s a x ≤ℤ b)
      tells = ((λ t. record { le = t }), (λ h. h.le))
