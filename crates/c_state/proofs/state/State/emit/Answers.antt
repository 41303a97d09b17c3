use Rattle.std.proofs.lemmas.Result.{err_from_is_err_and}
use Rattle.c_state.proofs.state.State.emit.Goals as goal

pub returns-in_err-push : goal.returns-in_err-push
returns-in_err-push c =
    let stop = err_from_is_err_and c.from_residual.result c.from_residual.ensures.1 in
    rw (stop.1, stop.2) (tt {0})
