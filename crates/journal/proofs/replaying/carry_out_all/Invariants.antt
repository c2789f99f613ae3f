use Rattle.std.proofs.Common.{◌≡◌, ◌+◌, ◌≤◌, ◌++◌, map, vec_len, vec_capacity}
use Rattle.std.specs.Vec.Iter.{into_iter_items, into_iter_len}
use Rattle.plan.specs.Models.{model}
use Rattle.journal.specs.Calls.{call_of}
use Rattle.journal.specs.Journals.{Replayed, replies_of}
use Rattle.journal.specs.Kinds.{AnswersEach}
use Rattle.journal.specs.Networks.{LeavesAfter}
use Rattle.journal.proofs.replaying.carry_out_all.Given as goal

abbrev pub invariant-loop-call : goal.invariant-loop-call
invariant-loop-call g l =
    record {
      can_next : (goal.iterator-loop-call g).can_next l.call-iterator;
      finite : (goal.iterator-loop-call g).is_finite l.call-iterator;
      in_order : l.yielded ++ into_iter_items l.call-iterator ≡ into_iter_items l.initial.call-iterator;
      carried : Replayed g.L.Over.Scale.algebra (model l.initial.plan) (map (call_of g.L.Network.meaning g.R.Network.meaning) l.yielded) (replies_of l.replies) (model l.plan);
      stand : LeavesAfter l.initial.plan.left.network l.initial.plan.right.network l.yielded l.replies.items l.plan.left.network l.plan.right.network;
      answers : AnswersEach l.yielded l.replies.items;
      room : vec_len l.replies + into_iter_len l.call-iterator ≤ vec_capacity l.replies;
    }
