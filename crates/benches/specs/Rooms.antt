-- A list in an array of 32 places. Assumes nothing.
use Rattle.std.specs.Prelude.{◌≡◌, ℕ, ◌-◌, ◌≤◌, List, ◌++◌, length, take, drop, replicate}
use Rattle.std.proofs.Common.{sym, ap, ◌∙◌, arith}
use Rattle.std.proofs.lemmas.List.{length-take, take-append-drop}
use Rattle.model.specs.declared.bench.Bench.{Bench}
use Rattle.model.specs.Calls.{no_bench}

-- the first n of 32 rows are taken, and the others are zeros
pub record Room (n : ℕ) (rows : List Bench) : Type 0 where
  pub few : n ≤ 32
  pub full : length rows ≡ 32
  pub spare : drop n rows ≡ replicate (32 - n) no_bench

-- what is taken gives the count and the rows back
pub count_back : (n : ℕ) (rows : List Bench) → Room n rows → length (take n rows) ≡ n
count_back n rows h = simp length-take (omega (arith, h.few, h.full))

pub rows_back : (n : ℕ) (rows : List Bench) → Room n rows → take n rows ++ replicate (32 - length (take n rows)) no_bench ≡ rows
rows_back n rows h =
    ap (λ (k : ℕ). take n rows ++ replicate (32 - k) no_bench) (count_back n rows h)
    ∙ ap (λ (zs : List Bench). take n rows ++ zs) (sym h.spare) ∙ take-append-drop n rows
