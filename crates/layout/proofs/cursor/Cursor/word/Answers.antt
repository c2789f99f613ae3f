use Rattle.std.proofs.Common.{◌≡◌, ◌+◌, ◌≤◌, length, arith, rules}
use Rattle.layout.specs.Layouts.{value, reads, number}
use Rattle.layout.proofs.Outcomes.{rest_at}
use Rattle.layout.proofs.cursor.Cursor.word.Goals as goal

pub returns : goal.returns
unfolding value reads number
returns c =
    let file = c.args.self.now.bytes.now in
    let p = c.args.self.now.at in
    let w : p + 4 ≤ length file = search rules in
    let e : c.joined-v.result ≡ value file p 4 = omega (arith, simp rest_at at c.joined-v.ensures) in
    search rules
