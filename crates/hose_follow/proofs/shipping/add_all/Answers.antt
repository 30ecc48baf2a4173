use Rattle.std.proofs.lemmas.Result.{err_from_is_err_and}
use Rattle.hose_follow.proofs.Shipped.{added_none}
use Rattle.hose_follow.proofs.shipping.add_all.Goals as goal

pub loop-init : goal.loop-init
loop-init g c = λ was network replaying. added_none g.S.Sink g.D.Disk was network c.args.from c.args.replay.now c.args.gather.now c.args.sink.now replaying

pub add_next-requires : goal.add_next-requires
add_next-requires g c =
    let has = c.loop.invariant c.requires.0 c.requires.1 c.requires.2 in
    (c.requires.0, c.requires.1, has.entries, has.replaying)

pub loop-preserved : goal.loop-preserved
loop-preserved g c = λ was network replaying.
    let next = c.in_ok-add_next.ensures.adds was network _ (c.loop.invariant was network replaying) in
    rw c.if-branch.true at next

pub returns : goal.returns
returns g c = λ was network replaying.
    let next = c.in_ok-add_next.ensures.adds was network _ (c.loop.invariant was network replaying) in
    rw c.if-branch.false at next

pub returns-in_err-add_next : goal.returns-in_err-add_next
returns-in_err-add_next g c = λ was network replaying.
    let told = err_from_is_err_and c.from_residual.result c.from_residual.ensures.1 in
    rw (told.1, told.2) (c.in_err-add_next.ensures.adds was network _ (c.loop.invariant was network replaying))
