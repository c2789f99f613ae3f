use Rattle.std.proofs.Common.{◌≡◌, ℕ, ◌≤◌, length, take, ◌∙◌, subst, length-take-le, arith, rules}
use Rattle.network.specs.Checks.{accepted, Checked}
use Rattle.model.specs.Calls.{starts_checks}
use Rattle.plan.specs.Models.{model}
use Rattle.journal.proofs.Fronts.{blank, front_length, front_rest, front_taken}
use Rattle.journal.proofs.carrying.read_starts.Goals as goal

pub invariant_of-result : goal.invariant_of-result
invariant_of-result g c =
    let n = c.args.left_count in
    let xs = c.starts.new.lefts in
    let few : n ≤ 32 = omega arith in
    let all : length xs ≡ n = search rules in
    record { few = few; full = front_length n xs few all; spare = front_rest n xs few all }

pub invariant_of-result-2 : goal.invariant_of-result-2
invariant_of-result-2 g c =
    let n = c.args.right_count in
    let xs = c.starts.new.rights in
    let few : n ≤ 32 = omega arith in
    let all : length xs ≡ n = search rules in
    record { few = few; full = front_length n xs few all; spare = front_rest n xs few all }

pub returns : goal.returns
returns g c =
    let p = model c.args.plan.now in
    let m = c.args.left_count in
    let n = c.args.right_count in
    let s = c.in_ok-starts.ensures in
    let mm : m ≤ 32 = omega arith in
    let nn : n ≤ 32 = omega arith in
    let em = length-take-le m blank mm in
    let en = length-take-le n blank nn in
    let lm : length c.starts.new.lefts ≡ m = search rules in
    let ln : length c.starts.new.rights ≡ n = search rules in
    record {
      checks = subst (λ (k : ℕ). Checked (starts_checks p k n) accepted) em (subst (λ (k : ℕ). Checked (starts_checks p (length (take m blank)) k) accepted) en s.checks);
      told = (front_taken m c.starts.new.lefts mm lm ∙ s.told.0, front_taken n c.starts.new.rights nn ln ∙ s.told.1);
    }
