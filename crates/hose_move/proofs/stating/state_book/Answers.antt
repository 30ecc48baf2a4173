use Rattle.std.proofs.lemmas.Result.{err_from_is_err_and}
use Rattle.hose_move.proofs.Readings.{no_further, states_live}
use Rattle.hose_move.proofs.stating.state_book.Goals as goal

pub returns-in-Ok : goal.returns-in-Ok
returns-in-Ok g c = λ was network replaying.
    let all = c.in_ok-pass.ensures was network replaying in
    states_live g.D.Disk was network c.pass.new.replay all.0 c.in-Ok.stated all.1 (rw c.book.ensures at c.in-Ok.ensures.entries) (rw c.book.ensures at c.in-Ok.ensures.numbers) (rw c.book.ensures at c.in-Ok.ensures.few)

pub returns-in-Err : goal.returns-in-Err
returns-in-Err g c = λ was network replaying.
    let all = c.in_ok-pass.ensures was network replaying in
    no_further g.D.Disk was network c.pass.new.replay.reading.disk all.1.begins all.1.kept

pub returns-in_err-pass : goal.returns-in_err-pass
returns-in_err-pass g c = λ was network replaying.
    let told = err_from_is_err_and c.from_residual.result c.from_residual.ensures.1 in
    rw (told.1, told.2) (c.in_err-pass.ensures was network replaying)
