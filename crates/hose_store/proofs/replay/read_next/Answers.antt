use Rattle.std.proofs.Common.{rules}
use Rattle.std.proofs.lemmas.Result.{err_from_is_err_and}
use Rattle.hose_store.proofs.Readings.{given_next}
use Rattle.hose_store.proofs.replay.read_next.Goals as goal

pub returns-clause-next : goal.returns-clause-next
returns-clause-next g c = λ entries given.
    let read = c.in_ok-entry.ensures.read entries given in
    let has = rw c.in-Some.is at read in (
      c.in-Some.entry,
      c.in-Ok.ensures,
      given_next g.D.Disk c.args.book.now c.apply.new.self c.args.reading.now c.next_sound.new.reading entries c.in-Some.entry given has (search rules) (search rules) (search rules) (search rules),
    )

pub returns-in_err-entry-clause-next : goal.returns-in_err-entry-clause-next
returns-in_err-entry-clause-next g c = λ entries given.
    let told = err_from_is_err_and c.from_residual.result c.from_residual.ensures.1 in
    rw (told.1, told.2) (c.in_err-entry.ensures.read entries given)
