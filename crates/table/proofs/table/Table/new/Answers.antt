use Rattle.std.proofs.Common.{◌≡◌, ℕ, ◌+◌, ◌*◌, ◌<◌, length, ℤ, Option, arith}
use Rattle.std.proofs.lemmas.Nat.{mul-add-lt}
use Rattle.scale.specs.Algebra.{counted}
use Rattle.network.specs.Lists.{at}
use Rattle.network.specs.Networks.{Size}
use Rattle.table.specs.Tables.{in_rows}
use Rattle.table.specs.Cells.{asked}
use Rattle.table.specs.TableLaw.{table_same}
use Rattle.table.proofs.table.Table.new.Goals as goal

pub returns : goal.returns
returns g c =
    let s = g.S.Scale.algebra in
    let m = c.args.stations in
    let n = c.args.benches in
    let given = c.args.cells.now in
    let kept = c.kept_cells.result.items in
    let size : Size m × Size n = (record { some = omega arith; few = omega arith }, record { some = omega arith; few = omega arith }) in
    let count : length given ≡ m * n = c.if-cells-stations.false in
    let cell : ℕ → ℕ → Option ℤ = λ i j. asked (at kept (i * n + j)) in
    let keeps : (i j : ℕ) → i < m → j < n → cell i j ≡ counted s (in_rows n given i j) = λ i j h l.
    c.kept_cells.ensures.cells (i * n + j) (omega (arith, mul-add-lt i n j m h l)) in
    (((λ k. k size), ((λ k. k count), tt)), record { means = table_same s m n cell (in_rows n given) keeps; keeps = keeps })
