use Rattle.std.proofs.Common.{arith}
use Rattle.std.proofs.lemmas.Result.{err_from_is_err_and}
use Rattle.hose_move.proofs.comparing.compare.Goals as goal

pub compare_next-requires-clause-part : goal.compare_next-requires-clause-part
compare_next-requires-clause-part g c = (c.requires.first.0, c.requires.first.1, c.loop-place.invariant.1 c.requires.first.0 c.requires.first.1 c.requires.first.2)

pub loop-place-preserved : goal.loop-place-preserved
loop-place-preserved g c = (
  (let next = c.in_ok-compare_next.ensures.compares c.requires.first.0 c.requires.first.1 (c.loop-place.invariant.1 c.requires.first.0 c.requires.first.1 c.requires.first.2) in
      (rw c.if-branch.true at next).0),
  λ was network replaying.
      let next = c.in_ok-compare_next.ensures.compares was network (c.loop-place.invariant.1 was network replaying) in
      (rw c.if-branch.true at next).1,
)

pub returns-clause-compares : goal.returns-clause-compares
returns-clause-compares g c = λ was network replaying.
    let next = c.in_ok-compare_next.ensures.compares was network (c.loop-place.invariant.1 was network replaying) in
    rw c.if-branch.false at next

pub returns-in_err-compare_next-clause-compares : goal.returns-in_err-compare_next-clause-compares
returns-in_err-compare_next-clause-compares g c = λ was network replaying.
    let told = err_from_is_err_and c.from_residual.result c.from_residual.ensures.1 in
    rw (told.1, told.2) (c.in_err-compare_next.ensures.compares was network (c.loop-place.invariant.1 was network replaying))

pub loop-place-smaller : goal.loop-place-smaller
loop-place-smaller g c =
    let next = c.in_ok-compare_next.ensures.compares c.requires.first.0 c.requires.first.1 (c.loop-place.invariant.1 c.requires.first.0 c.requires.first.1 c.requires.first.2) in
    omega (arith, (rw c.if-branch.true at next).0)
