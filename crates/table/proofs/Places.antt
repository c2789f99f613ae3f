-- Where the rows of a table lie, and a row of cells in its sums. Assumes nothing.
use Rattle.std.proofs.Common.{◌≡◌, ℕ, ◌+◌, ◌*◌, ◌<◌, ◌≤◌, List, length, ℤ, Option, sym, ap, ◌∙◌, arith}
use Rattle.std.specs.Int.{int_min}
use Rattle.std.proofs.lemmas.Nat.{mul-le, mul-add-lt}
use Rattle.scale.specs.Algebra.{Algebra, product_of, quotient_of}
use Rattle.network.specs.Lists.{at}
use Rattle.table.specs.Tables.{largest, arrival, latest_start}
use Rattle.table.specs.Cells.{asked}
use Rattle.table.specs.Folds.{largest_same, smallest_more}

-- the cells of a table of at most 32 by 32 are at most 1024
pub few_cells : (m n : ℕ) → m ≤ 32 → n ≤ 32 → m * n ≤ 1024
few_cells m n h l = mul-le m n 32 32 h l

-- a place of a station and a bench
pub place_within : (m n i j : ℕ) → m ≤ 32 → n ≤ 32 → i < m → j < n → i * n + j < 1024
place_within m n i j hm hn h l = omega (arith, mul-add-lt i n j m h l, few_cells m n hm hn)

-- a row that begins at a ends within the cells
pub row_within : (m n i a : ℕ) → m ≤ 32 → n ≤ 32 → i < m → a ≡ i * n → a + n ≤ 1024
row_within m n i a hm hn h e =
    let w : (i + 1) * n ≤ m * n = mul-le (i + 1) n m n (omega arith) (omega arith) in
    omega (arith, few_cells m n hm hn)

-- the arrival over a row
pub row_arrives : (s : Algebra) (n : ℕ) (row : ℕ → Option ℤ) (cells xs : List ℤ) (low r : ℤ) → s.lowest ≡ low → length cells ≡ n →
    ((j : ℕ) → j < n → asked (at cells j) ≡ row j) → r ≡ largest low (λ j. product_of s (asked (at cells j)) (at xs j)) (length cells) → r ≡ arrival s n row xs
row_arrives s n row cells xs low r d e same h =
    h ∙ ap (λ (z : ℤ). largest z (λ j. product_of s (asked (at cells j)) (at xs j)) (length cells)) (sym d)
    ∙ ap (λ (m : ℕ). largest s.lowest (λ j. product_of s (asked (at cells j)) (at xs j)) m) e
    ∙ largest_same s.lowest _ _ n (λ j l. ap (λ (a : Option ℤ). product_of s a (at xs j)) (same j l))

-- one row more in the smallest quotient of a column
pub row_lowers : (s : Algebra) (i : ℕ) (column : ℕ → Option ℤ) (c : ℤ) (vs : List ℤ) (was now : ℤ) → asked c ≡ column i →
    was ≡ latest_start s i column vs → now ≡ int_min was (quotient_of s (asked c) (at vs i)) → now ≡ latest_start s (i + 1) column vs
row_lowers s i column c vs was now same ew en =
    smallest_more s.highest (λ p. quotient_of s (column p) (at vs p)) i was _ now ew (ap (λ (a : Option ℤ). quotient_of s a (at vs i)) same) en
