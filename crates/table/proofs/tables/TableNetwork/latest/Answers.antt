use Rattle.std.proofs.Common.{◌≡◌, ℕ, ◌<◌, length, ap, ◌∙◌, arith, w32, SFits, rules}
use Rattle.std.proofs.lemmas.Int.{to_z-of_z}
use Rattle.network.specs.Lists.{at, listed}
use Rattle.network.specs.ListsLemmas.{listed_all}
use Rattle.table.specs.Tables.{latest_start}
use Rattle.table.specs.Cells.{cell_of}
use Rattle.table.proofs.Places.{row_lowers}
use Rattle.table.proofs.tables.TableNetwork.latest.Goals as goal

pub loop-i-preserved : goal.loop-i-preserved
loop-i-preserved g c = λ k h.
    let t = c.args.self.now in
    let l : k < length c.loop-i.out = omega arith in
    let v = at c.args.limits.now c.loop-i.i in
    let f : SFits w32 v = search rules in
    row_lowers g.S.Scale.algebra c.loop-i.i (λ i. cell_of t i k) (at c.row.result.now k) c.args.limits.now _ _ (c.row.ensures.cells k h)
    (c.loop-i.invariant k h) (rw (to_z-of_z w32 v f) at (c.lower_row.ensures k l))

pub returns : goal.returns
returns g c =
    let s = g.S.Scale.algebra in
    let t = c.args.self.now in
    let e : c.loop-i.i ≡ t.stations = omega arith in
    let all = listed_all (λ j. latest_start s c.loop-i.i (λ i. cell_of t i j) c.args.limits.now) c.loop-i.out t.benches (search rules) c.loop-i.invariant in
    (search rules, search rules, all ∙ ap (λ (m : ℕ). listed (λ j. latest_start s m (λ i. cell_of t i j) c.args.limits.now) t.benches) e)
