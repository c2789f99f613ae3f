-- The largest and the smallest of some values. Assumes nothing.
use Rattle.std.specs.Prelude.{◌≡◌, ℕ, zero, suc, ◌+◌, ◌<◌, List, [], ◌∷◌, length, fold, zip, ℤ, ◌≤ℤ◌, refl}
use Rattle.std.proofs.Common.{sym, ap, ap₂, subst, ◌∙◌, ⊎_elim, add-one, arith}
use Rattle.std.specs.Int.Signed.{≤ℤ_refl}
use Rattle.std.specs.Int.{int_max, int_min}
use Rattle.std.proofs.lemmas.Bool.{cases_eq}
use Rattle.scale.proofs.Integers.{≤_trans, max_left, max_right, max_least, min_left, min_right, min_above}
use Rattle.network.specs.Lists.{at}
use Rattle.table.specs.Tables.{largest, smallest}

module _ (d : ℤ) (f : ℕ → ℤ) where
  pub largest_over : (n : ℕ) → d ≤ℤ largest d f n
  largest_over zero = ≤ℤ_refl d
  largest_over (suc n) = ≤_trans _ _ _ (largest_over n) (max_left (largest d f n) (f n))

  pub largest_bounds : (n j : ℕ) → j < n → f j ≤ℤ largest d f n
  largest_bounds zero j h = absurd (omega arith)
  largest_bounds (suc n) j h = ⊎_elim
      (λ e. subst (λ i. f i ≤ℤ int_max (largest d f n) (f n)) (sym e) (max_right (largest d f n) (f n)))
      (λ ne. ≤_trans _ _ _ (largest_bounds n j (omega (arith, ne))) (max_left (largest d f n) (f n)))
      (cases_eq j n)

  pub largest_least : (n : ℕ) (z : ℤ) → d ≤ℤ z → ((j : ℕ) → j < n → f j ≤ℤ z) → largest d f n ≤ℤ z
  largest_least zero z l h = l
  largest_least (suc n) z l h = max_least _ _ z (largest_least n z l (λ j q. h j (omega arith))) (h n (omega arith))

  pub smallest_under : (n : ℕ) → smallest d f n ≤ℤ d
  smallest_under zero = ≤ℤ_refl d
  smallest_under (suc n) = ≤_trans _ _ _ (min_left (smallest d f n) (f n)) (smallest_under n)

  pub smallest_bounds : (n j : ℕ) → j < n → smallest d f n ≤ℤ f j
  smallest_bounds zero j h = absurd (omega arith)
  smallest_bounds (suc n) j h = ⊎_elim
      (λ e. subst (λ i. int_min (smallest d f n) (f n) ≤ℤ f i) (sym e) (min_right (smallest d f n) (f n)))
      (λ ne. ≤_trans _ _ _ (min_left (smallest d f n) (f n)) (smallest_bounds n j (omega (arith, ne))))
      (cases_eq j n)

  pub smallest_most : (n : ℕ) (z : ℤ) → z ≤ℤ d → ((j : ℕ) → j < n → z ≤ℤ f j) → z ≤ℤ smallest d f n
  smallest_most zero z l h = l
  smallest_most (suc n) z l h = min_above _ _ z (smallest_most n z l (λ j q. h j (omega arith))) (h n (omega arith))

  -- a turn of the loop over a column
  pub largest_more : (n : ℕ) (top p r : ℤ) → top ≡ largest d f n → p ≡ f n → r ≡ int_max top p → r ≡ largest d f (n + 1)
  largest_more n top p r t e h = h ∙ ap₂ int_max t e ∙ rw add-one

  pub smallest_more : (n : ℕ) (least q r : ℤ) → least ≡ smallest d f n → q ≡ f n → r ≡ int_min least q → r ≡ smallest d f (n + 1)
  smallest_more n least q r t e h = h ∙ ap₂ int_min t e ∙ rw add-one

-- the largest, from the first value on
largest_first : (d : ℤ) (f : ℕ → ℤ) (n : ℕ) → largest (int_max d (f 0)) (λ j. f (suc j)) n ≡ largest d f (suc n)
largest_first d f zero = refl
largest_first d f (suc n) = ap (λ (z : ℤ). int_max z (f (suc n))) (largest_first d f n)

-- a fold over two lists of one length
pub largest_folded : (g : ℤ → ℤ → ℤ) (d : ℤ) (cs xs : List ℤ) → length cs ≡ length xs →
    fold (λ top p. int_max top (g p.0 p.1)) d (zip cs xs) ≡ largest d (λ j. g (at cs j) (at xs j)) (length cs)
largest_folded g d [] [] e = refl
largest_folded g d [] (x ∷ xs) e = absurd (omega arith)
largest_folded g d (c ∷ cs) [] e = absurd (omega arith)
largest_folded g d (c ∷ cs) (x ∷ xs) e =
    largest_folded g (int_max d (g c x)) cs xs (omega arith) ∙ largest_first d (λ j. g (at (c ∷ cs) j) (at (x ∷ xs) j)) (length cs)

-- of two functions that agree
pub largest_same : (d : ℤ) (f g : ℕ → ℤ) (n : ℕ) → ((k : ℕ) → k < n → f k ≡ g k) → largest d f n ≡ largest d g n
largest_same d f g zero h = refl
largest_same d f g (suc n) h = ap₂ int_max (largest_same d f g n (λ k l. h k (omega arith))) (h n (omega arith))

pub smallest_same : (d : ℤ) (f g : ℕ → ℤ) (n : ℕ) → ((k : ℕ) → k < n → f k ≡ g k) → smallest d f n ≡ smallest d g n
smallest_same d f g zero h = refl
smallest_same d f g (suc n) h = ap₂ int_min (smallest_same d f g n (λ k l. h k (omega arith))) (h n (omega arith))
