use Rattle.std.proofs.Common.{◌-◌, ◌/◌, ◌<◌, ◌≤◌, length, sym, refl, arith, rules}
use Rattle.planfile.proofs.Skips.{fields_whole, fields_short}
use Rattle.planfile.proofs.asking.skip.Goals as goal

pub returns-then-whole-count : goal.returns-then-whole-count
returns-then-whole-count c =
    let file = c.args.cursor.now.bytes.now in
    let p = c.args.cursor.now.at in
    let l : p ≤ length file = search rules in
    let h : (length file - p) / 4 < c.args.count = search rules in
    record { same = refl; comes = sym (fields_short c.args.count file p l h) }

pub returns : goal.returns
returns c =
    let file = c.args.cursor.now.bytes.now in
    let p = c.args.cursor.now.at in
    let l : p ≤ length file = search rules in
    let h : c.args.count ≤ (length file - p) / 4 = search rules in
    record { same = refl; comes = sym (fields_whole c.args.count file p (omega arith)) }
