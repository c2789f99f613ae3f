-- A table keeps the law of networks by the law of its scale, and means what its coefficients count as. Assumes nothing.
use Rattle.std.specs.Prelude.{◌≡◌, ℕ, ◌<◌, Bool, true, false, cond, List, length, ℤ, ◌≤ℤ◌, Some, None, Option, refl}
use Rattle.std.proofs.Common.{sym, ap, subst, ◌∙◌}
use Rattle.scale.specs.Algebra.{Algebra, LawfulScale, Value, present, counted, held, product_of, quotient_of}
use Rattle.scale.proofs.Integers.{≤_trans}
use Rattle.scale.proofs.Everywhere.{ordered, product_of_value, quotient_of_value, residuated_of}
use Rattle.network.specs.Lists.{at, ◌≼◌, Row}
use Rattle.network.specs.Networks.{Size, LawfulNetwork}
use Rattle.network.specs.ListsLemmas.{length_listed, at_listed, listed_same, listed_row, row_at, below_at, at_below}
use Rattle.table.specs.Tables.{table, arrival, latest_start}
use Rattle.table.specs.Folds.{largest_over, largest_bounds, largest_least, smallest_under, smallest_bounds, smallest_most, largest_same, smallest_same}

module _ (s : Algebra) (ok : LawfulScale s) (m n : ℕ) (cell : ℕ → ℕ → Option ℤ) where
  arrival_value : (row : ℕ → Option ℤ) (xs : List ℤ) → Value s (arrival s n row xs)
  arrival_value row xs = record {
    above = largest_over _ _ n;
    below = largest_least _ _ n _ (ordered s ok) (λ j h. (product_of_value s ok (row j) (at xs j)).below);
  }

  latest_value : (column : ℕ → Option ℤ) (vs : List ℤ) → Value s (latest_start s m column vs)
  latest_value column vs = record {
    above = smallest_most _ _ m _ (ordered s ok) (λ i h. (quotient_of_value s ok (column i) (at vs i)).above);
    below = smallest_under _ _ m;
  }

  module _ (xs vs : List ℤ) (x : Row s n xs) (v : Row s m vs) where
    forth : (table s m n cell).arrivals xs ≼ vs → xs ≼ (table s m n cell).latest vs
    forth u = at_below xs ((table s m n cell).latest vs) (x.count ∙ sym (length_listed _ n)) (λ j h.
        let h' : j < n = subst (λ k. j < k) x.count h in
        let vj = row_at s n xs x j h' in
        subst (λ z. at xs j ≤ℤ z) (sym (at_listed _ n j h'))
        (smallest_most _ _ m (at xs j) vj.below (λ i q.
        let q' : i < length ((table s m n cell).arrivals xs) = subst (λ k. i < k) (sym (length_listed _ m)) q in
        let all : arrival s n (cell i) xs ≤ℤ at vs i = subst (λ z. z ≤ℤ at vs i) (at_listed _ m i q) (below_at _ vs u i q') in
        (residuated_of s ok (cell i j) (at xs j) (at vs i) vj (row_at s m vs v i q)).0
        (≤_trans _ _ _ (largest_bounds s.lowest (λ k. product_of s (cell i k) (at xs k)) n j h') all))))

    back : xs ≼ (table s m n cell).latest vs → (table s m n cell).arrivals xs ≼ vs
    back u = at_below ((table s m n cell).arrivals xs) vs (length_listed _ m ∙ sym v.count) (λ i h.
        let h' : i < m = subst (λ k. i < k) (length_listed _ m) h in
        let vi = row_at s m vs v i h' in
        subst (λ z. z ≤ℤ at vs i) (sym (at_listed _ m i h'))
        (largest_least _ _ n (at vs i) vi.above (λ j q.
        let q' : j < length xs = subst (λ k. j < k) (sym x.count) q in
        let all : at xs j ≤ℤ latest_start s m (λ k. cell k j) vs = subst (λ z. at xs j ≤ℤ z) (at_listed _ n j q) (below_at xs _ u j q') in
        (residuated_of s ok (cell i j) (at xs j) (at vs i) (row_at s n xs x j q) vi).1
        (≤_trans _ _ _ all (smallest_bounds s.highest (λ k. quotient_of s (cell k j) (at vs k)) m i h')))))

  pub table_lawful : Size m → Size n → LawfulNetwork s (table s m n cell)
  table_lawful stations benches = record {
    stations_size = stations;
    benches_size = benches;
    arrivals_row = λ x. listed_row s _ m (λ i h. arrival_value (cell i) x);
    latest_row = λ v. listed_row s _ n (λ j h. latest_value (λ i. cell i j) v);
    residuated = λ x v r q. (forth x v r q, back x v r q);
  }

-- ---- coefficients that count as the same

counted_twice : (s : Algebra) (a : Option ℤ) → counted s (counted s a) ≡ counted s a
counted_twice s None = refl
counted_twice s (Some a) = chosen (present s a) refl
  where
    chosen : (b : Bool) → present s a ≡ b → counted s (cond b (Some a) None) ≡ cond b (Some a) None
    chosen true e = ap (λ b. cond b (Some a) None) e
    chosen false e = refl

pub table_same : (s : Algebra) (m n : ℕ) (cell given : ℕ → ℕ → Option ℤ) → ((i j : ℕ) → i < m → j < n → cell i j ≡ counted s (given i j)) →
    table s m n cell ≡ table s m n given
table_same s m n cell given e = λ i. record {
  stations = m;
  benches = n;
  arrivals = λ xs. listed_same (λ k. arrival s n (cell k) xs) (λ k. arrival s n (given k) xs) m
      (λ k h. largest_same s.lowest _ _ n (λ j l. ap (λ a. s.product a (held s (at xs j))) (same k j h l))) i;
  latest = λ vs. listed_same (λ j. latest_start s m (λ k. cell k j) vs) (λ j. latest_start s m (λ k. given k j) vs) n
      (λ j l. smallest_same s.highest _ _ m (λ k h. ap (λ a. s.quotient a (held s (at vs k))) (same k j h l))) i;
}
  where
    same : (i j : ℕ) → i < m → j < n → counted s (cell i j) ≡ counted s (given i j)
    same i j h l = ap (counted s) (e i j h l) ∙ counted_twice s (given i j)
