use Rattle.std.proofs.Common.{◌≡◌, ◌-◌, length, rules}
use borrow.Rule.Slice.PartMut.{mid_of}
use Rattle.benches.proofs.Parts.{held, room_after}
use Rattle.benches.proofs.table.Benches.fill.Goals as goal

pub invariant_of-self : goal.invariant_of-self
invariant_of-self c =
    let b = c.args.self.now in
    let same : length c.write_fresh.new.rows ≡ length (mid_of 0 (b.count - 0) b.rows) = search rules in
    let room = room_after b.count b.rows c.write_fresh.new.rows (held b) same in
    record { few = room.few; full = room.full; spare = room.spare }
