use Rattle.std.proofs.Common.{◌≡◌, [], ◌∷◌, ◌++◌, deque_len, sym, refl, ap, ◌∙◌, append_assoc, arith, rules}
use Rattle.std.specs.Vec.Iter.{into_iter_items}
use Rattle.std.proofs.lemmas.List.{append-nil, nil_from_length, map-append}
use Rattle.journal.proofs.Histories.{replay_none, replay_more}
use Rattle.journal.proofs.Answered.{answers_more}
use Rattle.journal.proofs.Standing.{leaves_more}
use Rattle.journal.proofs.replaying.carry_out_all.Goals as goal

pub loop-call-init : goal.loop-call-init
loop-call-init g c =
    let blank : c.args.journal.room.items ≡ [] = nil_from_length _ (search rules) in
    record {
      can_next = tt;
      finite = tt;
      in_order = refl;
      carried = rw blank (replay_none _ _);
      stand = rw blank (refl, refl);
      answers = rw blank tt;
      room = omega (arith, c.args.journal.blank, c.args.journal.enough, ap deque_len c.into_iter-call-iterator.ensures.into_iter_gives.0);
    }

pub loop-call-preserved : goal.loop-call-preserved
loop-call-preserved g c =
    let at = c.loop-call in
    let call = c.in-Some.call in
    let steps = c.in-Some.ensures.steps in
    record {
      can_next = tt;
      finite = tt;
      in_order = append_assoc at.yielded (call ∷ []) _ ∙ rw (← steps.0) at.invariant.in_order;
      carried = simp (map-append, c.push_reserved.ensures.items) (replay_more _ _ _ _ _ _ _ _ at.invariant.carried c.carry_out.ensures.steps);
      stand = rw c.push_reserved.ensures.items (leaves_more _ _ at.yielded _ _ _ call c.carry_out.result _ _ at.invariant.stand c.carry_out.ensures.networks);
      answers = rw c.push_reserved.ensures.items (answers_more at.yielded at.replies.items call c.carry_out.result at.invariant.answers c.carry_out.ensures.answers);
      room = omega (arith, at.invariant.room, steps.1, c.push_reserved.ensures.len, c.push_reserved.ensures.capacity);
    }

pub returns-clause-runs : goal.returns-clause-runs
returns-clause-runs g c =
    let at = c.loop-call in
    let none : into_iter_items at.call-iterator ≡ [] = nil_from_length _ (search rules) in
    let all : at.yielded ≡ c.args.journal.calls.items = sym (append-nil at.yielded) ∙ ap (λ z. at.yielded ++ z) (sym none) ∙ at.invariant.in_order ∙ search rules in
    rw all at at.invariant.carried
