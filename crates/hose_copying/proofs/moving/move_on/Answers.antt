use Rattle.std.proofs.Common.{Err, ap, inl, inr, refl, subst}
use Rattle.hose_move.specs.Changing.{IsFirstChange}
use Rattle.hose_copying.proofs.moving.move_on.Goals as goal

pub returns-in-Some-clause-moves : goal.returns-in-Some-clause-moves
returns-in-Some-clause-moves g c = inl (c.in-Some.change, ap Err c.stop_of_change.ensures, subst (IsFirstChange _ _) c.in-Some.is c.first_change.ensures, refl, refl)

pub returns-in-None-clause-moves : goal.returns-in-None-clause-moves
returns-in-None-clause-moves g c = inr (subst (IsFirstChange _ _) c.in-None.is c.first_change.ensures, rw c.scope_of.ensures at c.move_apart.ensures.moves)
