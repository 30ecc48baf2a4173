use Rattle.std.proofs.Common.{sym, subst, List}
use Rattle.std.proofs.lemmas.Result.{err_from_is_err_and}
use Rattle.hose_graph.specs.declared.entry.Entry.{Entry}
use Rattle.hose_move.specs.steps.Collecting.{HasPassed}
use Rattle.hose_move.proofs.Collected.{passed_none}
use Rattle.hose_move.proofs.collecting.collect.Goals as goal

pub loop-init : goal.loop-init
loop-init g c = λ was network replaying. subst (λ (l : List Entry). HasPassed g.D.Disk was network c.args.replay.now l) (sym c.requires.empty) (passed_none g.D.Disk was network c.args.replay.now replaying)

pub collect_next-requires : goal.collect_next-requires
collect_next-requires g c = (c.requires.first.0, c.requires.first.1, c.loop.invariant c.requires.first.0 c.requires.first.1 c.requires.first.2)

pub loop-preserved : goal.loop-preserved
loop-preserved g c = λ was network replaying.
    let next = c.in_ok-collect_next.ensures.collects was network (c.loop.invariant was network replaying) in
    rw c.if-branch.true at next

pub returns : goal.returns
returns g c = λ was network replaying.
    let next = c.in_ok-collect_next.ensures.collects was network (c.loop.invariant was network replaying) in
    rw c.if-branch.false at next

pub returns-in_err-collect_next : goal.returns-in_err-collect_next
returns-in_err-collect_next g c = λ was network replaying.
    let told = err_from_is_err_and c.from_residual.result c.from_residual.ensures.1 in
    rw (told.1, told.2) (c.in_err-collect_next.ensures.collects was network (c.loop.invariant was network replaying))
