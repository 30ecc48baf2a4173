-- So far each id has become one entry more of the pass's own.
use Rattle.std.proofs.Common.{◌≡◌, ◌+◌, length}
use Rattle.tests_threads.proofs.turn.add_many.Given as goal

abbrev pub invariant-loop-id : goal.invariant-loop-id
invariant-loop-id g l =
    (l.pass.turn ≡ l.fn.pass.turn)
    × (l.pass.share ≡ l.fn.pass.share)
    × (length l.pass.own ≡ length l.fn.pass.own + l.id)
