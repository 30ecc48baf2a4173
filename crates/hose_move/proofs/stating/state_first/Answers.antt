use Rattle.std.proofs.lemmas.Result.{err_from_is_err_and}
use Rattle.hose_move.proofs.Readings.{states_first}
use Rattle.hose_move.proofs.stating.state_first.Goals as goal

pub returns : goal.returns
returns g c = λ was network replaying.
    states_first g.D.Disk was network _ c.args.count c.in_ok-all.all c.front_of.result (c.in_ok-all.ensures was network replaying) c.front_of.ensures.entries c.front_of.ensures.numbers

pub returns-in_err-all : goal.returns-in_err-all
returns-in_err-all g c = λ was network replaying.
    let told = err_from_is_err_and c.from_residual.result c.from_residual.ensures.1 in
    rw (told.1, told.2) (c.in_err-all.ensures was network replaying)
