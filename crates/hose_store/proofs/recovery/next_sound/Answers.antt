use Rattle.std.proofs.Common.{rules}
use Rattle.std.proofs.lemmas.Result.{err_from_is_err_and}
use Rattle.hose_store.proofs.Before.{fault_before, unsound_before}
use Rattle.hose_store.proofs.Readings.{given_none, read_on, stopped_by, stopped_unsound}
use Rattle.hose_store.proofs.recovery.next_sound.Goals as goal

pub returns-in_err-entry-clause-stopped : goal.returns-in_err-entry-clause-stopped
returns-in_err-entry-clause-stopped g c =
    let entries = c.requires.0 in
    let given = c.requires.1 in
    let told = err_from_is_err_and c.from_residual.result c.from_residual.ensures.1 in
    let has = c.in_err-entry.ensures.read given.fault _ entries given.reads in
    rw (told.1, told.2) (stopped_by g.D.Disk c.args.book.now c.args.reading.now c.next.new.self entries given _ c.next.ensures.only.same has)

pub returns-in_default-clause-read : goal.returns-in_default-clause-read
returns-in_default-clause-read g c = λ entries given.
    let read = c.in_ok-entry.ensures.read given.fault _ entries given.reads in
    let has = rw c.in_default.is at read in
    (given_none g.D.Disk c.args.book.now c.args.reading.now c.next.new.self entries given has (c.in_ok-entry.ensures.fault given.fault), has.2)

pub returns-then-is_err-clause-stopped : goal.returns-then-is_err-clause-stopped
returns-then-is_err-clause-stopped g c =
    let entries = c.requires.0 in
    let given = c.requires.1 in
    let read = c.in_ok-entry.ensures.read given.fault _ entries given.reads in
    let has = rw c.in-Some.is at read in
    stopped_unsound g.D.Disk c.args.book.now c.args.reading.now c.next.new.self entries given c.in-Some.entry c.at-at.result c.next.ensures.only.same has (search rules) c.at-at.ensures

pub returns-clause-read : goal.returns-clause-read
returns-clause-read g c = λ entries given.
    let read = c.in_ok-entry.ensures.read given.fault _ entries given.reads in
    let has = rw c.in-Some.is at read in
    read_on g.D.Disk c.args.book.now c.args.reading.now c.next.new.self entries c.in-Some.entry given has (c.in_ok-entry.ensures.fault given.fault)

pub returns-in_err-entry-clause-read : goal.returns-in_err-entry-clause-read
returns-in_err-entry-clause-read g c = λ entries given.
    let told = err_from_is_err_and c.from_residual.result c.from_residual.ensures.1 in
    let has = c.in_err-entry.ensures.read given.fault _ entries given.reads in
    rw (told.1, told.2) (fault_before g.D.Disk c.args.book.now c.args.reading.now c.next.new.self entries given _ c.next.ensures.only.same has)

pub returns-then-is_err-clause-read : goal.returns-then-is_err-clause-read
returns-then-is_err-clause-read g c = λ entries given.
    let read = c.in_ok-entry.ensures.read given.fault _ entries given.reads in
    let has = rw c.in-Some.is at read in
    unsound_before g.D.Disk c.args.book.now c.args.reading.now c.next.new.self entries given c.in-Some.entry c.at-at.result has (search rules) c.at-at.ensures
