use Rattle.std.proofs.Common.{[]}
use Rattle.std.proofs.lemmas.Result.{err_from_is_err_and}
use Rattle.hosed_host.proofs.reading.read_all.Goals as goal

pub loop-init : goal.loop-init
loop-init g c = λ was network has. ([], has)

pub read_next-requires : goal.read_next-requires
read_next-requires g c =
    let has = c.loop.invariant c.requires.0 c.requires.1 c.requires.2 in
    (c.requires.0, c.requires.1, has.0, has.1)

pub loop-preserved : goal.loop-preserved
loop-preserved g c = λ was network begun.
    let has = c.loop.invariant was network begun in
    let next = c.in_ok-read_next.ensures.reads was network has.0 has.1 in
    rw c.if-branch.true at next

pub returns : goal.returns
returns g c = λ was network begun.
    let has = c.loop.invariant was network begun in
    let next = c.in_ok-read_next.ensures.reads was network has.0 has.1 in
    rw c.if-branch.false at next

pub returns-in_err-read_next : goal.returns-in_err-read_next
returns-in_err-read_next g c = λ was network begun.
    let told = err_from_is_err_and c.from_residual.result c.from_residual.ensures.1 in
    let has = c.loop.invariant was network begun in
    rw (told.1, told.2) (c.in_err-read_next.ensures.reads was network has.0 has.1)
