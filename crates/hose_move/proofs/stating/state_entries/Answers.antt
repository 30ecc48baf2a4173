use Rattle.std.proofs.Common.{refl, rules}
use Rattle.std.proofs.lemmas.Result.{err_from_is_err_and}
use Rattle.hose_move.proofs.Readings.{states_entries}
use Rattle.hose_move.proofs.stating.state_entries.Goals as goal

pub returns : goal.returns
returns g c = λ was network replaying. states_entries g.D.Disk was network c.collect.new.replay c.collect.new.entries.items _ (c.in_ok-collect.ensures was network replaying) refl (search rules)

pub returns-in_err-collect : goal.returns-in_err-collect
returns-in_err-collect g c = λ was network replaying.
    let told = err_from_is_err_and c.from_residual.result c.from_residual.ensures.1 in
    rw (told.1, told.2) (c.in_err-collect.ensures was network replaying)
