use Rattle.std.proofs.Common.{◌≡◌, ◌≤◌, length, arith, rules}
use Rattle.journal.proofs.Fronts.{front_length, front_rest}
use Rattle.journal.proofs.start_list.StartList.new.Goals as goal

pub invariant_of-result : goal.invariant_of-result
invariant_of-result c =
    let n = length c.args.starts.now in
    let xs = c.copy_from_slice.new.self in
    let few : n ≤ 32 = omega arith in
    let all : length xs ≡ n = search rules in
    record { few = few; full = front_length n xs few all; spare = front_rest n xs few all }
