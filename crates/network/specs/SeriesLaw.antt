-- Two networks in series keep the law. Assumes nothing.
use Rattle.std.specs.Prelude.{◌≡◌, ℕ, ◌<◌, List, length, ℤ, pos, ◌≤ℤ◌}
use Rattle.std.proofs.Common.{sym, subst, ◌∙◌, ⊎_elim}
use Rattle.std.proofs.lemmas.List.{get_or_default, get_or_past}
use Rattle.std.proofs.lemmas.Bool.{cases_lt}
use Rattle.scale.specs.Algebra.{Algebra, LawfulScale, Value}
use Rattle.scale.proofs.Everywhere.{lowest_value, highest_value}
use Rattle.network.specs.Lists.{at, ◌≼◌, Row}
use Rattle.network.specs.Networks.{Meaning, LawfulNetwork}
use Rattle.network.specs.Kinds.{padded, series, chained}
use Rattle.network.specs.ListsLemmas.{length_listed, at_listed, listed_all, listed_row, row_at, below_at, at_below}

padded_row : (s : Algebra) (d : ℤ) → Value s d → (m n : ℕ) (xs : List ℤ) → Row s m xs → Row s n (padded d n xs)
padded_row s d v m n xs r = listed_row s _ n (λ k h. ⊎_elim
    (λ l. subst (Value s) (get_or_default xs k (pos 0) d l) (row_at s m xs r k (subst (λ j. k < j) r.count l)))
    (λ p. subst (Value s) (sym (get_or_past xs k d p)) v)
    (cases_lt k (length xs)))

-- a list of m places filled up with the lowest value to n, and one of n places with the highest to m
module _ (s : Algebra) (m n : ℕ) (us ws : List ℤ) (u : Row s m us) (w : Row s n ws) where
  over : padded s.lowest n us ≼ ws → us ≼ padded s.highest m ws
  over h = at_below us (padded s.highest m ws) (u.count ∙ sym (length_listed _ m)) (λ k l.
      let l' : k < m = subst (λ j. k < j) u.count l in
      subst (λ z. at us k ≤ℤ z) (sym (at_listed _ m k l')) (⊎_elim
      (λ i.
      let i' : k < n = subst (λ j. k < j) w.count i in
      let q : k < length (padded s.lowest n us) = subst (λ j. k < j) (sym (length_listed _ n)) i' in
      let r = subst (λ z. z ≤ℤ at ws k) (at_listed _ n k i' ∙ get_or_default us k s.lowest (pos 0) l) (below_at (padded s.lowest n us) ws h k q) in
      subst (λ z. at us k ≤ℤ z) (get_or_default ws k (pos 0) s.highest i) r)
      (λ p. subst (λ z. at us k ≤ℤ z) (sym (get_or_past ws k s.highest p)) (row_at s m us u k l').below)
      (cases_lt k (length ws))))

  under : us ≼ padded s.highest m ws → padded s.lowest n us ≼ ws
  under h = at_below (padded s.lowest n us) ws (length_listed _ n ∙ sym w.count) (λ k q.
      let i' : k < n = subst (λ j. k < j) (length_listed _ n) q in
      let i : k < length ws = subst (λ j. k < j) (sym w.count) i' in
      subst (λ z. z ≤ℤ at ws k) (sym (at_listed _ n k i')) (⊎_elim
      (λ l.
      let l' : k < m = subst (λ j. k < j) u.count l in
      let r = subst (λ z. at us k ≤ℤ z) (at_listed _ m k l' ∙ get_or_default ws k s.highest (pos 0) i) (below_at us (padded s.highest m ws) h k l) in
      subst (λ z. z ≤ℤ at ws k) (get_or_default us k (pos 0) s.lowest l) r)
      (λ p. subst (λ z. z ≤ℤ at ws k) (sym (get_or_past us k s.lowest p)) (row_at s n ws w k i').above)
      (cases_lt k (length us))))

pub series_lawful : (s : Algebra) → LawfulScale s → (a b : Meaning) → LawfulNetwork s a → LawfulNetwork s b → LawfulNetwork s (series s a b)
series_lawful s ok a b la lb = record {
  stations_size = lb.stations_size;
  benches_size = la.benches_size;
  arrivals_row = λ x. lb.arrivals_row (on x);
  latest_row = λ v. la.latest_row (off v);
  residuated = λ x v r q.
      let us = la.arrivals_row x in
      let ws = lb.latest_row v in
      let first = la.residuated x (off v) r (padded_row s s.highest (highest_value s ok) b.benches a.stations (b.latest v) ws) in
      let second = lb.residuated (on x) v (padded_row s s.lowest (lowest_value s ok) a.stations b.benches (a.arrivals x) us) q in (
        (λ h. first.0 (over s a.stations b.benches (a.arrivals x) (b.latest v) us ws (second.0 h))),
        (λ h. second.1 (under s a.stations b.benches (a.arrivals x) (b.latest v) us ws (first.1 h))),
      );
}
  where
    on : List ℤ → List ℤ
    on x = padded s.lowest b.benches (a.arrivals x)

    off : List ℤ → List ℤ
    off v = padded s.highest a.stations (b.latest v)

-- nothing is filled up where the sizes agree
padded_same : (d : ℤ) (n : ℕ) (xs : List ℤ) → length xs ≡ n → padded d n xs ≡ xs
padded_same d n xs e = sym (listed_all _ xs n e (λ k h. get_or_default xs k (pos 0) d (subst (λ m. k < m) (sym e) h)))

pub series_chained : (s : Algebra) (a b : Meaning) → LawfulNetwork s a → LawfulNetwork s b → a.stations ≡ b.benches → series s a b ≡ chained a b
series_chained s a b la lb e = λ i. record {
  stations = b.stations;
  benches = a.benches;
  arrivals = λ xs. b.arrivals (padded_same s.lowest b.benches (a.arrivals xs) ((la.arrivals_row xs).count ∙ e) i);
  latest = λ vs. a.latest (padded_same s.highest a.stations (b.latest vs) ((lb.latest_row vs).count ∙ sym e) i);
}
