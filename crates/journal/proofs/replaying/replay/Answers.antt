use Rattle.std.proofs.Common.{sym, ◌∙◌}
use Rattle.std.proofs.lemmas.Result.{err_from_is_err_and}
use Rattle.std.proofs.lemmas.List.{length-map}
use Rattle.journal.specs.Calls.{call_of, reply_of}
use Rattle.journal.proofs.Histories.{replayed}
use Rattle.journal.proofs.replaying.replay.Goals as goal

pub returns-in_err-plan : goal.returns-in_err-plan
returns-in_err-plan g c =
    let e = err_from_is_err_and c.from_residual.result c.from_residual.ensures.1 in rw (e.1, e.2) c.in_err-plan.ensures

pub returns : goal.returns
returns g c =
    let a = g.L.Network.meaning in
    let b = g.R.Network.meaning in
    let founded = c.in_ok-plan.ensures in
    let stand = founded.0.1 in
    let run = rw founded.1 at c.carry_out_all-replies.ensures.runs in
    let networks = rw (stand.left, stand.right, founded.1) at c.carry_out_all-replies.ensures.networks in
    let answers = rw founded.1 at c.carry_out_all-replies.ensures.answers in (
      sym (length-map c.carry_out_all-replies.result.items reply_of) ∙ run.each ∙ length-map c.args.journal.calls.items (call_of a b),
      replayed g.L.Over.Scale.algebra g.met.L.Over.Scale.lawful (a c.args.left) (b c.args.right) c.args.lefts.now c.args.rights.now _ _ _ _
          (g.met.L.Network.lawful c.args.left) (g.met.R.Network.lawful c.args.right) founded.0.0 run,
      networks,
      answers,
    )
