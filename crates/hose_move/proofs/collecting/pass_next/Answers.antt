use Rattle.std.proofs.lemmas.Result.{err_from_is_err_and}
use Rattle.hose_move.proofs.Collected.{passed_all, passed_more, passed_until}
use Rattle.hose_move.proofs.collecting.pass_next.Goals as goal

pub returns-in_err-_ready-clause-passes : goal.returns-in_err-_ready-clause-passes
returns-in_err-_ready-clause-passes g c = λ was network entries passed.
    let read = c.in_err-_ready.ensures.read was network _ passed.replaying in
    let told = err_from_is_err_and c.from_residual.result c.from_residual.ensures.1 in
    rw (told.1, told.2) (passed_until g.D.Disk was network g.met.D.Disk.counts_now c.args.replay.now c.next.new.self _ passed _ read c.in_err-_ready.ensures.only)

pub returns-in_default-clause-passes : goal.returns-in_default-clause-passes
returns-in_default-clause-passes g c = λ was network entries passed.
    let read = c.in_ok-_ready.ensures.read was network _ passed.replaying in
    (entries, passed_all g.D.Disk was network g.met.D.Disk.counts_now c.args.replay.now c.next.new.self _ passed (rw c.in_default.is at read))

pub returns-clause-passes : goal.returns-clause-passes
returns-clause-passes g c = λ was network entries passed.
    let read = c.in_ok-_ready.ensures.read was network _ passed.replaying in
    let more = passed_more g.D.Disk was network g.met.D.Disk.counts_now c.args.replay.now c.next.new.self _ passed c.in-Some._ready (rw c.in-Some.is at read) in
    (_, more.2)
