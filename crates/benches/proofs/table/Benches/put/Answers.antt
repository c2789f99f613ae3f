use Rattle.std.proofs.Common.{◌≡◌, ◌-◌, List, length, set, ap, ◌∙◌, rules}
use borrow.Rule.Slice.PartMut.{mid_of}
use Rattle.model.specs.declared.bench.Bench.{Bench}
use Rattle.benches.specs.Rooms.{count_back}
use Rattle.benches.proofs.Parts.{part_read, part_written, held, room_after}
use Rattle.benches.proofs.table.Benches.put.Goals as goal

pub invariant_of-self : goal.invariant_of-self
invariant_of-self c =
    let b = c.args.self.now in
    let same : length c.put_row.new.rows ≡ length (mid_of 0 (b.count - 0) b.rows) = search rules in
    let room = room_after b.count b.rows c.put_row.new.rows (held b) same in
    record { few = room.few; full = room.full; spare = room.spare }

pub returns : goal.returns
returns c =
    let b = c.args.self.now in
    let read = part_read b.count b.rows in
    let same : length c.put_row.new.rows ≡ length (mid_of 0 (b.count - 0) b.rows) = search rules in
    part_written b.count (b.count - 0) c.put_row.new.rows b.rows (same ∙ ap length read ∙ count_back b.count b.rows (held b)) ∙ c.put_row.ensures
    ∙ ap (λ (z : List Bench). set z c.args.bench c.args.row) read
