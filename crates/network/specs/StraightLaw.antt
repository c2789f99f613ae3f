-- A straight network keeps the law. Assumes nothing.
use Rattle.std.specs.Prelude.{◌≡◌, ℕ, List, ℤ}
use Rattle.std.proofs.Common.{sym, subst}
use Rattle.scale.specs.Algebra.{Algebra, LawfulScale}
use Rattle.scale.proofs.Everywhere.{held_value, held_same}
use Rattle.network.specs.Lists.{at, ◌≼◌, Row}
use Rattle.network.specs.Networks.{Size, LawfulNetwork}
use Rattle.network.specs.Kinds.{straight, handed}
use Rattle.network.specs.ListsLemmas.{listed_all, listed_row, row_at}

module _ (s : Algebra) (ok : LawfulScale s) (n : ℕ) where
  handed_same : (xs : List ℤ) → Row s n xs → handed s n xs ≡ xs
  handed_same xs r = sym (listed_all _ xs n r.count (λ k h. sym (held_same s ok (at xs k) (row_at s n xs r k h))))

  pub straight_lawful : Size n → LawfulNetwork s (straight s n)
  straight_lawful size = record {
    stations_size = size;
    benches_size = size;
    arrivals_row = λ x. listed_row s _ n (λ k h. held_value s ok (at x k));
    latest_row = λ v. listed_row s _ n (λ k h. held_value s ok (at v k));
    residuated = λ x v r q.
        let e = handed_same x r in
        let f = handed_same v q in (
          (λ h. subst (λ z. x ≼ z) (sym f) (subst (λ z. z ≼ v) e h)),
          (λ h. subst (λ z. z ≼ v) (sym e) (subst (λ z. x ≼ z) f h)),
        );
  }
