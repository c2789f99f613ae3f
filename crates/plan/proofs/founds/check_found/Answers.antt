use Rattle.std.proofs.lemmas.Result.{err_from_is_err_and}
use Rattle.network.specs.Checks.{refused}
use Rattle.network.proofs.InOrder.{more_checks, early_fault}
use Rattle.model.specs.Calls.{size_checks, window_checks}
use Rattle.benches.specs.Answers.{told, window_answer}
use Rattle.plan.proofs.founds.check_found.Goals as goal

pub returns-in_err-check_windows : goal.returns-in_err-check_windows
returns-in_err-check_windows g c =
    let σ = g.L.Over.Scale.algebra in
    let e = err_from_is_err_and c.from_residual-in_err-check_windows.result c.from_residual-in_err-check_windows.ensures.1 in
    let sizes = size_checks (g.L.Network.meaning c.args.left.now) (g.R.Network.meaning c.args.right.now) c.args.lefts.now c.args.rights.now in
    let u = told c.in_err-check_windows.field-0.0 in
    rw (e.1, e.2) (more_checks sizes _ (refused u) c.in_ok-check_sizes.ensures
    (early_fault (window_checks σ 0 0 c.args.lefts.now) (window_checks σ 1 0 c.args.rights.now) u c.in_err-check_windows.ensures))

pub returns : goal.returns
returns g c =
    let σ = g.L.Over.Scale.algebra in
    let sizes = size_checks (g.L.Network.meaning c.args.left.now) (g.R.Network.meaning c.args.right.now) c.args.lefts.now c.args.rights.now in
    let a = window_answer c.check_windows-2.result in
    more_checks sizes _ a c.in_ok-check_sizes.ensures
    (more_checks (window_checks σ 0 0 c.args.lefts.now) (window_checks σ 1 0 c.args.rights.now) a c.in_ok-check_windows.ensures c.check_windows-2.ensures)
