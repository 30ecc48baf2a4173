use Rattle.std.proofs.Common.{inl, inr, refl, rules}
use Rattle.hose_copying.proofs.moving.enter_enough.Goals as goal

pub returns-clause-enters : goal.returns-clause-enters
returns-clause-enters g c = inr (search rules, c.enter.ensures.enters)

pub returns-then-not-suffice-clause-enters : goal.returns-then-not-suffice-clause-enters
returns-then-not-suffice-clause-enters g c = inl (search rules, search rules, refl, refl)
