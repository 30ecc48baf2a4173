use Rattle.std.proofs.Common.{inl, inr, refl}
use Rattle.hose_copying.proofs.moving.enter.Goals as goal

pub returns-in-Ok-clause-enters : goal.returns-in-Ok-clause-enters
returns-in-Ok-clause-enters g c = inr (rw c.deref.ensures.value at c.in-Ok.ensures.ok, c.in-Ok.ensures.met.ok, rw c.deref-in-Ok.ensures.value at c.move_new.ensures.moves)

pub returns-in-Err-clause-enters : goal.returns-in-Err-clause-enters
returns-in-Err-clause-enters g c = inl (refl, c.in-Err.ensures.met.failed refl, rw c.deref.ensures.value at c.in-Err.ensures.err, refl)
