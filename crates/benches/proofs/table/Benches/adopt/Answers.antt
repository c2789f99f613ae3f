use Rattle.std.proofs.Common.{◌≡◌, ◌-◌, length, map, ap, ◌∙◌, rules}
use borrow.Rule.Slice.PartMut.{mid_of}
use Rattle.model.specs.Calls.{adopt_bench}
use Rattle.benches.specs.Rooms.{count_back}
use Rattle.benches.proofs.Parts.{part_read, part_written, held, room_after}
use Rattle.benches.proofs.Fills.{made}
use Rattle.benches.proofs.table.Benches.adopt.Goals as goal

pub invariant_of-self : goal.invariant_of-self
invariant_of-self c =
    let b = c.args.self.now in
    let same : length c.rewrite.new.rows ≡ length (mid_of 0 (b.count - 0) b.rows) = search rules in
    let room = room_after b.count b.rows c.rewrite.new.rows (held b) same in
    record { few = room.few; full = room.full; spare = room.spare }

pub returns : goal.returns
returns c =
    let b = c.args.self.now in
    let read = part_read b.count b.rows in
    let same : length c.rewrite.new.rows ≡ length (mid_of 0 (b.count - 0) b.rows) = search rules in
    part_written b.count (b.count - 0) c.rewrite.new.rows b.rows (same ∙ ap length read ∙ count_back b.count b.rows (held b))
    ∙ made _ adopt_bench (λ x y p. search rules) (mid_of 0 (b.count - 0) b.rows) c.rewrite.new.rows c.rewrite.ensures
    ∙ ap (map adopt_bench) read
