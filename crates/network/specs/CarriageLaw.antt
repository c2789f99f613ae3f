-- A carriage keeps the law by that of its scale and that of the network below. Assumes nothing.
use Rattle.std.specs.Prelude.{◌≡◌, ℕ, ◌<◌, List, length, ℤ, ◌≤ℤ◌, Option}
use Rattle.std.proofs.Common.{sym, ap, subst, ◌∙◌}
use Rattle.scale.specs.Algebra.{Algebra, LawfulScale, product_of, quotient_of}
use Rattle.scale.proofs.Everywhere.{product_of_value, quotient_of_value, residuated_of}
use Rattle.network.specs.Lists.{at, ◌≼◌, Row}
use Rattle.network.specs.Networks.{Meaning, LawfulNetwork}
use Rattle.network.specs.Kinds.{coefficient_at, carriage, multiplied, divided}
use Rattle.network.specs.ListsLemmas.{length_listed, at_listed, listed_same, listed_row, row_at, below_at, at_below}

module _ (s : Algebra) (ok : LawfulScale s) (cs : List (Option ℤ)) where
  multiplied_row : (n : ℕ) (us : List ℤ) → Row s n (multiplied s cs n us)
  multiplied_row n us = listed_row s _ n (λ i h. product_of_value s ok (coefficient_at cs i) (at us i))

  divided_row : (n : ℕ) (vs : List ℤ) → Row s n (divided s cs n vs)
  divided_row n vs = listed_row s _ n (λ i h. quotient_of_value s ok (coefficient_at cs i) (at vs i))

  -- the law of the scale at every station
  module _ (n : ℕ) (us vs : List ℤ) (u : Row s n us) (v : Row s n vs) where
    forth : multiplied s cs n us ≼ vs → us ≼ divided s cs n vs
    forth h = at_below us (divided s cs n vs) (u.count ∙ sym (length_listed _ n)) (λ i l.
        let l' : i < n = subst (λ k. i < k) u.count l in
        let m : i < length (multiplied s cs n us) = subst (λ k. i < k) (sym (length_listed _ n)) l' in
        subst (λ z. at us i ≤ℤ z) (sym (at_listed _ n i l'))
        ((residuated_of s ok (coefficient_at cs i) (at us i) (at vs i) (row_at s n us u i l') (row_at s n vs v i l')).0
        (subst (λ z. z ≤ℤ at vs i) (at_listed _ n i l') (below_at (multiplied s cs n us) vs h i m))))

    back : us ≼ divided s cs n vs → multiplied s cs n us ≼ vs
    back h = at_below (multiplied s cs n us) vs (length_listed _ n ∙ sym v.count) (λ i l.
        let l' : i < n = subst (λ k. i < k) (length_listed _ n) l in
        let m : i < length us = subst (λ k. i < k) (sym u.count) l' in
        subst (λ z. z ≤ℤ at vs i) (sym (at_listed _ n i l'))
        ((residuated_of s ok (coefficient_at cs i) (at us i) (at vs i) (row_at s n us u i l') (row_at s n vs v i l')).1
        (subst (λ z. at us i ≤ℤ z) (at_listed _ n i l') (below_at us (divided s cs n vs) h i m))))

  pub carriage_lawful : (b : Meaning) → LawfulNetwork s b → LawfulNetwork s (carriage s cs b)
  carriage_lawful b below = record {
    stations_size = below.stations_size;
    benches_size = below.benches_size;
    arrivals_row = λ x. multiplied_row b.stations (b.arrivals x);
    latest_row = λ v. below.latest_row (divided s cs b.stations v);
    residuated = λ x v r q.
        let n = b.stations in
        let u = below.arrivals_row x in
        let law = below.residuated x (divided s cs n v) r (divided_row n v) in
        ((λ h. law.0 (forth n (b.arrivals x) v u q h)), (λ h. back n (b.arrivals x) v u q (law.1 h)));
  }

-- only the coefficients of the stations count
pub carriage_same : (s : Algebra) (cs ds : List (Option ℤ)) (b : Meaning) → ((k : ℕ) → k < b.stations → coefficient_at cs k ≡ coefficient_at ds k) →
    carriage s cs b ≡ carriage s ds b
carriage_same s cs ds b e = λ i. record {
  stations = b.stations;
  benches = b.benches;
  arrivals = λ xs. listed_same
      (λ k. product_of s (coefficient_at cs k) (at (b.arrivals xs) k)) (λ k. product_of s (coefficient_at ds k) (at (b.arrivals xs) k)) b.stations
      (λ k h. ap (λ a. product_of s a (at (b.arrivals xs) k)) (e k h)) i;
  latest = λ vs. b.latest (listed_same
      (λ k. quotient_of s (coefficient_at cs k) (at vs k)) (λ k. quotient_of s (coefficient_at ds k) (at vs k)) b.stations
      (λ k h. ap (λ a. quotient_of s a (at vs k)) (e k h)) i);
}
