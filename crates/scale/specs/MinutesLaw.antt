-- Minutes keep the law of scales. Assumes nothing.
use Rattle.std.specs.Prelude.{◌≡◌, ◌↔◌, ℤ, ◌+ℤ◌, ◌-ℤ◌, neg_ℤ, ◌≤ℤ◌, ◌<ℤ◌, Some, None, Option, refl}
use Rattle.std.proofs.Common.{sym, subst, arith}
use Rattle.std.proofs.lemmas.Int.{ints, by_lt_z}
use Rattle.scale.specs.Algebra.{LawfulScale, Value, Coefficient, clamped}
use Rattle.scale.specs.Minutes.{minutes, Q, void, open', by_kind, difference, minutes_product, minutes_quotient}

-- an ordinary value's case
at_ordinary : (x v o n : ℤ) → neg_ℤ Q ≤ℤ x → x ≤ℤ Q → by_kind x v o n ≡ n
at_ordinary x v o n l h = grind (arith, ints)

by_kind_value : (x n : ℤ) → Value minutes n → Value minutes (by_kind x void open' n)
by_kind_value x n v =
    let l = v.above in
    let h = v.below in
    record { above = grind (arith, ints); below = grind (arith, ints) }

product_value : (a : Option ℤ) (x : ℤ) → Coefficient minutes a → Value minutes x → Value minutes (minutes_product a x)
product_value None x c v = record { above = omega (arith, ints); below = omega (arith, ints) }
product_value (Some a) x c v = by_kind_value x _ (record { above = grind (arith, ints); below = grind (arith, ints) })

quotient_value : (a : Option ℤ) (b : ℤ) → Coefficient minutes a → Value minutes b → Value minutes (minutes_quotient a b)
quotient_value None b c v = record { above = omega (arith, ints); below = omega (arith, ints) }
quotient_value (Some a) b c v = by_kind_value b _ (record { above = grind (arith, ints); below = grind (arith, ints) })

-- at ordinary x, and at ordinary b below Q
ordinary : (a x b : ℤ) → neg_ℤ Q ≤ℤ x → x ≤ℤ Q → neg_ℤ Q ≤ℤ b → b <ℤ Q → (clamped (neg_ℤ Q) Q (a +ℤ x) ≤ℤ b) ↔ (x ≤ℤ difference (b -ℤ a))
ordinary a x b l h m k = ((λ e. grind (arith, ints)), (λ e. grind (arith, ints)))

back : (a : Option ℤ) (x b : ℤ) → Coefficient minutes a → Value minutes x → Value minutes b → x ≤ℤ minutes_quotient a b → minutes_product a x ≤ℤ b
back None x b c v w h = let l = w.above in omega (arith, ints)
back (Some a) x b c v w h =
    let wl = w.above in
    let wh = w.below in
    by_lt_z x (neg_ℤ Q) (λ l. grind (arith, ints)) (λ m.
    by_lt_z Q x (λ l. grind (arith, ints)) (λ n.
    let p : minutes_product (Some a) x ≡ clamped (neg_ℤ Q) Q (a +ℤ x) = at_ordinary x _ _ _ m n in
    by_lt_z b (neg_ℤ Q) (λ l. grind (arith, ints)) (λ k.
    by_lt_z b Q (λ l.
    let q : minutes_quotient (Some a) b ≡ difference (b -ℤ a) = grind (arith, ints) in
    subst (λ z. z ≤ℤ b) (sym p) ((ordinary a x b m n k l).1 (subst (λ z. x ≤ℤ z) q h)))
    (λ l. subst (λ z. z ≤ℤ b) (sym p) (grind (arith, ints))))))

forth : (a : Option ℤ) (x b : ℤ) → Coefficient minutes a → Value minutes x → Value minutes b → minutes_product a x ≤ℤ b → x ≤ℤ minutes_quotient a b
forth None x b c v w h = let l = v.below in omega (arith, ints)
forth (Some a) x b c v w h =
    let vl = v.above in
    let vh = v.below in
    let wl = w.above in
    let wh = w.below in
    grind (arith, ints)

pub minutes_lawful : LawfulScale minutes
minutes_lawful = record {
  lowest_limit = omega (arith, ints);
  highest_limit = omega (arith, ints);
  least_coefficient_limit = omega (arith, ints);
  greatest_coefficient_limit = omega (arith, ints);
  least_window = record { above = omega (arith, ints); below = omega (arith, ints) };
  greatest_window = record { above = omega (arith, ints); below = omega (arith, ints) };
  absent_product = λ x v. refl;
  absent_quotient = λ b v. refl;
  product_value = product_value;
  quotient_value = quotient_value;
  residuated = λ a x b c v w. (forth a x b c v w, back a x b c v w);
}
