use Rattle.std.proofs.Common.{[]}
use Rattle.std.proofs.lemmas.Result.{err_from_is_err_and}
use Rattle.hose_move.proofs.Collected.{passed_none}
use Rattle.hose_move.proofs.collecting.pass.Goals as goal

pub loop-init : goal.loop-init
loop-init g c = λ was network replaying. ([], passed_none g.D.Disk was network c.args.replay.now replaying)

pub pass_next-requires : goal.pass_next-requires
pass_next-requires g c =
    let has = c.loop.invariant c.requires.0 c.requires.1 c.requires.2 in
    (c.requires.0, c.requires.1, has.0, has.1)

pub loop-preserved : goal.loop-preserved
loop-preserved g c = λ was network replaying.
    let has = c.loop.invariant was network replaying in
    let next = c.in_ok-pass_next.ensures.passes was network has.0 has.1 in
    rw c.if-branch.true at next

pub returns : goal.returns
returns g c = λ was network replaying.
    let has = c.loop.invariant was network replaying in
    let next = c.in_ok-pass_next.ensures.passes was network has.0 has.1 in
    rw c.if-branch.false at next

pub returns-in_err-pass_next : goal.returns-in_err-pass_next
returns-in_err-pass_next g c = λ was network replaying.
    let told = err_from_is_err_and c.from_residual.result c.from_residual.ensures.1 in
    let has = c.loop.invariant was network replaying in
    rw (told.1, told.2) (c.in_err-pass_next.ensures.passes was network has.0 has.1)
