-- Lists by their places. Assumes nothing.
use Rattle.std.specs.Prelude.{◌≡◌, ℕ, zero, suc, ◌+◌, ◌<◌, List, [], ◌∷◌, length, ℤ, pos, ◌≤ℤ◌, int_le, Bool, true, false, ◌&&◌, T, ◌↔◌, zip, slice_set}
use Rattle.std.specs.List.{list_all}
use Rattle.std.proofs.Common.{sym, subst, zero-add, le_of_suc-le-suc, arith, below_more}
use Rattle.std.proofs.lemmas.List.FromFn.{length-map-range_with_len, get_or-map-range_with_len, fill_by_all}
use Rattle.std.proofs.lemmas.List.Elements.{AllZip-get_or}
use Rattle.std.proofs.lemmas.List.{get_or-set_same, get_or-set_other}
use Rattle.scale.specs.Algebra.{Algebra, Value}
use Rattle.network.specs.Lists.{at, listed, ◌≼◌, Values, Row}

-- ---- a list given by a function of the place

pub length_listed : (f : ℕ → ℤ) (n : ℕ) → length (listed f n) ≡ n
length_listed f n = length-map-range_with_len f 0 n

pub at_listed : (f : ℕ → ℤ) (n k : ℕ) → k < n → at (listed f n) k ≡ f k
at_listed f n k h = get_or-map-range_with_len f 0 n k k (pos 0) h (zero-add k)

pub listed_all : (f : ℕ → ℤ) (xs : List ℤ) (n : ℕ) → length xs ≡ n → ((k : ℕ) → k < n → at xs k ≡ f k) → xs ≡ listed f n
listed_all f xs n e h = fill_by_all f xs n (pos 0) e h

pub listed_same : (f g : ℕ → ℤ) (n : ℕ) → ((k : ℕ) → k < n → f k ≡ g k) → listed f n ≡ listed g n
listed_same f g n h = listed_all g (listed f n) n (length_listed f n) (λ k l. subst (λ z. z ≡ g k) (sym (at_listed f n k l)) (h k l))

-- one place more of a list that is written in order
pub written_more : (P : ℕ → ℤ → Type 0) (xs : List ℤ) (i : ℕ) (z : ℤ) → i < length xs → ((k : ℕ) → k < i → P k (at xs k)) → P i z →
    (k : ℕ) → k < i + 1 → P k (at (slice_set xs i z) k)
written_more P xs i z h inv here = below_more (λ k. P k (at (slice_set xs i z) k)) i
    (λ k l. subst (P k) (sym (get_or-set_other xs i k z (pos 0) (λ e. omega (arith, e)))) (inv k l))
    (subst (P i) (sym (get_or-set_same xs i z (pos 0) h)) here)

pub listed_more : (f : ℕ → ℤ) (xs : List ℤ) (i : ℕ) (z : ℤ) → i < length xs → ((k : ℕ) → k < i → at xs k ≡ f k) → z ≡ f i →
    (k : ℕ) → k < i + 1 → at (slice_set xs i z) k ≡ f k
listed_more f = written_more (λ k z. z ≡ f k)

-- ---- the order and the range by places

pub below_at : (x y : List ℤ) → x ≼ y → (k : ℕ) → k < length x → at x k ≤ℤ at y k
below_at x y h k l = AllZip-get_or _ x y k (pos 0) (pos 0) h l

pub at_below : (x y : List ℤ) → length x ≡ length y → ((k : ℕ) → k < length x → at x k ≤ℤ at y k) → x ≼ y
at_below [] [] e h = tt
at_below [] (b ∷ y) e h = absurd (omega arith)
at_below (a ∷ x) [] e h = absurd (omega arith)
at_below (a ∷ x) (b ∷ y) e h = (h zero (omega arith), at_below x y (omega arith) (λ k l. h (suc k) (omega arith)))

both_pass : (p q : Bool) → T (p && q) ↔ (T p × T q)
both_pass true q = ((λ t. (tt, t)), (λ h. h.1))
both_pass false q = ((λ t. absurd t), (λ h. h.0))

-- the test of each pair decides the order
pub below_by_pairs : (x y : List ℤ) → length x ≡ length y → T (list_all (λ p. int_le p.0 p.1) (zip x y)) ↔ (x ≼ y)
below_by_pairs [] [] e = ((λ _. tt), (λ _. tt))
below_by_pairs [] (b ∷ y) e = absurd (omega arith)
below_by_pairs (a ∷ x) [] e = absurd (omega arith)
below_by_pairs (a ∷ x) (b ∷ y) e =
    let rest = below_by_pairs x y (omega arith) in
    let here = both_pass (int_le a b) (list_all (λ p. int_le p.0 p.1) (zip x y)) in (
      (λ t. (record { le = (here.0 t).0 }, rest.0 (here.0 t).1)),
      (λ h. here.1 (h.0.le, rest.1 h.1)),
    )

module _ (s : Algebra) where
  values_at : (xs : List ℤ) → Values s xs → (k : ℕ) → k < length xs → Value s (at xs k)
  values_at [] v k h = absurd (omega arith)
  values_at (x ∷ xs) v zero h = v.0
  values_at (x ∷ xs) v (suc k) h = values_at xs v.1 k (le_of_suc-le-suc h)

  at_values : (xs : List ℤ) → ((k : ℕ) → k < length xs → Value s (at xs k)) → Values s xs
  at_values [] h = tt
  at_values (x ∷ xs) h = (h zero (omega arith), at_values xs (λ k l. h (suc k) (omega arith)))

  pub row_at : (n : ℕ) (xs : List ℤ) → Row s n xs → (k : ℕ) → k < n → Value s (at xs k)
  row_at n xs r k h = values_at xs r.values k (subst (λ m. k < m) (sym r.count) h)

  pub at_row : (n : ℕ) (xs : List ℤ) → length xs ≡ n → ((k : ℕ) → k < n → Value s (at xs k)) → Row s n xs
  at_row n xs e h = record { count = e; values = at_values xs (λ k l. h k (subst (λ m. k < m) e l)) }

  pub listed_row : (f : ℕ → ℤ) (n : ℕ) → ((k : ℕ) → k < n → Value s (f k)) → Row s n (listed f n)
  listed_row f n h = at_row n (listed f n) (length_listed f n) (λ k l. subst (Value s) (sym (at_listed f n k l)) (h k l))
