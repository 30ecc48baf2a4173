use Rattle.std.proofs.Common.{inl, inr, refl}
use Rattle.hose_outside.specs.steps.Parts.{held}
use Rattle.hose_copying.proofs.Lending.{are_apart, is_not_found}
use Rattle.hose_copying.proofs.moving.move_apart.Goals as goal

pub returns-in-Ok-clause-moves : goal.returns-in-Ok-clause-moves
returns-in-Ok-clause-moves g c =
    inr (
      c.tell_apart.new.self,
      are_apart g.C.Cabinet c.args.of.old.now c.args.of.new.now (held c.args.outside.now).cabinet c.tell_apart.new.self c.tell_apart.ensures.texts c.tell_apart.ensures.disks c.in-Ok.ensures.call c.in-Ok.ensures.apart
          (λ same. absurd (cc (c.in-Ok.ensures.refused same))),
      c.move_stated.ensures.moves,
    )

pub returns-in-Err-clause-moves : goal.returns-in-Err-clause-moves
returns-in-Err-clause-moves g c =
    inl (refl, is_not_found g.C.Cabinet (held c.args.outside.now).cabinet c.tell_apart.new.self c.tell_apart.ensures.texts c.tell_apart.ensures.disks c.in-Err.ensures.call, refl)
