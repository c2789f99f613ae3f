use Rattle.std.proofs.Common.{rules}
use Rattle.network.specs.ListsLemmas.{listed_all, listed_more}
use Rattle.table.specs.Tables.{arrival}
use Rattle.table.specs.Cells.{cell_of}
use Rattle.table.proofs.Places.{row_arrives}
use Rattle.table.proofs.tables.TableNetwork.arrivals.Goals as goal

pub loop-i-preserved : goal.loop-i-preserved
loop-i-preserved g c =
    let s = g.S.Scale.algebra in
    let t = c.args.self.now in
    let i = c.loop-i.i in
    let r = row_arrives s t.benches (cell_of t i) c.row.result.now c.args.starts.now _ _ g.met.S.Scale.numbers.lowest_is c.row.ensures.count c.row.ensures.cells c.row_arrival.ensures in
    listed_more (λ k. arrival s t.benches (cell_of t k) c.args.starts.now) c.loop-i.out i _ (search rules) c.loop-i.invariant (search rules)

pub returns : goal.returns
returns g c = (search rules, search rules, listed_all _ c.loop-i.out _ (search rules) (λ k h. c.loop-i.invariant k (search rules)))
