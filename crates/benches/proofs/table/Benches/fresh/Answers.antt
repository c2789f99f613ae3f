use Rattle.std.proofs.Common.{◌≡◌, ℕ, ◌≤◌, min, map, length, take, ap, ◌∙◌, arith, rules}
use Rattle.model.specs.Sheets.{fresh_bench}
use Rattle.model.specs.Calls.{no_bench}
use Rattle.benches.proofs.Parts.{take_min, room_of_zeros}
use Rattle.benches.proofs.table.Benches.fresh.Goals as goal

pub invariant_of-benches : goal.invariant_of-benches
invariant_of-benches c =
    let few : c.min-count.result ≤ 32 = omega arith in
    let zeros : c.default.result ≡ no_bench = search rules in
    let room = room_of_zeros c.min-count.result c.default.result few zeros in
    record { few = room.few; full = room.full; spare = room.spare }

pub returns : goal.returns
returns c =
    let ws = c.args.windows.now in
    let m : c.min-count.result ≡ min (length ws) 32 = search rules in
    c.fill.ensures ∙ ap (map fresh_bench) (ap (λ (k : ℕ). take k ws) m ∙ take_min 32 ws)
