-- Half a round: one hall's starts are cut by the other's arrivals. Assumes nothing.
use Rattle.std.proofs.Common.{◌≡◌, ℕ, List, ℤ, sym, ◌∙◌, subst}
use Rattle.scale.specs.Algebra.{Algebra}
use Rattle.network.specs.Lists.{◌≼◌, Row}
use Rattle.network.specs.Networks.{Meaning, LawfulNetwork}
use Rattle.model.specs.declared.bench.Bench.{Bench}
use Rattle.model.specs.Plans.{starts, cut}
use Rattle.model.proofs.Order.{≼_refl, ≼_trans, ≼-length}
use Rattle.model.proofs.Tables.{cut_below, cut_limit, cut_above, cut_values}

pub arrivals_mono : (σ : Algebra) (m : Meaning) → LawfulNetwork σ m → (x y : List ℤ) → Row σ m.benches x → Row σ m.benches y → x ≼ y →
    m.arrivals x ≼ m.arrivals y
arrivals_mono σ m l x y rx ry h =
    let v = m.arrivals y in
    let rv = l.arrivals_row y in
    (l.residuated x v rx rv).1 (≼_trans x y (m.latest v) h ((l.residuated y v ry rv).0 (≼_refl v)))

-- the hall H is cut by the arrivals of the hall K
module _ (σ : Algebra) (H K : Meaning) (lawful : LawfulNetwork σ H) (other : LawfulNetwork σ K) (level : K.stations ≡ H.stations)
    (bs cs : List Bench) (rb : Row σ H.benches (starts bs)) (rc : Row σ K.benches (starts cs)) where
  limits_row : Row σ H.stations (K.arrivals (starts cs))
  limits_row = subst (λ (n : ℕ). Row σ n (K.arrivals (starts cs))) level (other.arrivals_row (starts cs))

  pub half_row : Row σ H.benches (starts (cut bs (H.latest (K.arrivals (starts cs)))))
  half_row =
      let v = H.latest (K.arrivals (starts cs)) in
      record {
        count = ≼-length (starts (cut bs v)) (starts bs) (cut_below bs v) ∙ rb.count;
        values = cut_values σ bs v rb.values (lawful.latest_row (K.arrivals (starts cs))).values;
      }

  -- the hall now arrives nowhere later than the other
  pub half_arrives : H.arrivals (starts (cut bs (H.latest (K.arrivals (starts cs))))) ≼ K.arrivals (starts cs)
  half_arrives =
      let v = H.latest (K.arrivals (starts cs)) in
      (lawful.residuated (starts (cut bs v)) (K.arrivals (starts cs)) half_row limits_row).1
      (cut_limit bs v (rb.count ∙ sym (lawful.latest_row (K.arrivals (starts cs))).count))

  -- and no list that fits is lost
  pub half_above : (x y : List ℤ) → Row σ H.benches x → Row σ K.benches y → x ≼ starts bs → y ≼ starts cs → H.arrivals x ≼ K.arrivals y →
      x ≼ starts (cut bs (H.latest (K.arrivals (starts cs))))
  half_above x y rx ry hx hy e =
      let v = K.arrivals (starts cs) in
      let below : H.arrivals x ≼ v = ≼_trans (H.arrivals x) (K.arrivals y) v e (arrivals_mono σ K other y (starts cs) ry rc hy) in
      cut_above bs (H.latest v) x hx ((lawful.residuated x v rx limits_row).0 below)
