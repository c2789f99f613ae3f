-- Two lists of the same records are the same value. Assumes nothing.
use Rattle.std.proofs.Common.{◌≡◌, ◌-◌, ◌≤◌, List, ◌++◌, length, drop, replicate, ℤ, refl, sym, ap, ◌∙◌}
use mathlib.Core.HLevel.{is_prop→PathP}
use Rattle.std.proofs.Math.Nat.{ℕ_set}
use Rattle.std.specs.Coded.{Coded, Coded-set, coded_list, coded×, coded_ℤ, code_by, le_prop}
use Rattle.model.specs.declared.bench.Bench.{Bench}
use Rattle.model.specs.Calls.{no_bench}
use Rattle.benches.specs.declared.table.Benches.{Benches}
use Rattle.benches.specs.Rooms.{count_back, rows_back}
use Rattle.benches.specs.Records.{records}
use Rattle.benches.proofs.Parts.{held}

code : Coded Bench
code = code_by (ℤ × (ℤ × ℤ)) (coded× coded_ℤ (coded× coded_ℤ coded_ℤ)) (λ b. (b.floor, (b.ceiling, b.start))) (λ p. record { floor = p.0; ceiling = p.1.0; start = p.1.1 }) (λ _. refl)

pub same_records : (a b : Benches) → records a ≡ records b → a ≡ b
same_records a b e = λ i. record {
  rows = l i;
  count = n i;
  few = is_prop→PathP (λ j. n j ≤ 32) (λ j. le_prop) a.few b.few i;
  full = is_prop→PathP (λ j. length (l j) ≡ 32) (λ j. ℕ_set _ _) a.full b.full i;
  spare = is_prop→PathP (λ j. drop (n j) (l j) ≡ replicate (32 - n j) no_bench) (λ j. Coded-set (coded_list code) _ _) a.spare b.spare i;
}
  where
    n : a.count ≡ b.count
    n = sym (count_back a.count a.rows (held a)) ∙ ap length e ∙ count_back b.count b.rows (held b)

    l : a.rows ≡ b.rows
    l = sym (rows_back a.count a.rows (held a)) ∙ ap (λ (bs : List Bench). bs ++ replicate (32 - length bs) no_bench) e ∙ rows_back b.count b.rows (held b)
