use Rattle.std.proofs.lemmas.Result.{err_from_is_err_and}
use Rattle.network.specs.Checks.{accepted, refused}
use Rattle.benches.specs.Answers.{told}
use Rattle.benches.proofs.WindowChecks.{window_next, window_fault, window_last}
use Rattle.benches.proofs.windows.check_windows.Goals as goal

pub returns-in_err-check_window : goal.returns-in_err-check_window
returns-in_err-check_window g c =
    let e = err_from_is_err_and c.from_residual.result c.from_residual.ensures.1 in
    let u = told c.in_err-check_window.field-0.0 in
    rw (e.1, e.2) (c.loop-bench.invariant (refused u)
    (window_fault g.S.Scale.algebra c.args.side c.loop-bench.bench c.args.windows.now u c.loop-bench-test.true c.in_err-check_window.ensures))

pub loop-bench-preserved : goal.loop-bench-preserved
loop-bench-preserved g c a h =
    c.loop-bench.invariant a
    (window_next g.S.Scale.algebra c.args.side c.loop-bench.bench c.args.windows.now a c.loop-bench-test.true c.in_ok-check_window.ensures h)

pub returns : goal.returns
returns g c =
    c.loop-bench.invariant accepted (window_last g.S.Scale.algebra c.args.side c.loop-bench.bench c.args.windows.now c.loop-bench-test.false)
