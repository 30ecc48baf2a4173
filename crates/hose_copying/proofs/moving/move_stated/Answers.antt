use Rattle.std.proofs.Common.{inl, inr, refl, subst}
use Rattle.hose_copying.specs.Moving.{ReadsOld}
use Rattle.hose_outside.specs.steps.Parts.{held}
use Rattle.hose_copying.proofs.moving.move_stated.Goals as goal

pub returns-in-Ok-clause-moves : goal.returns-in-Ok-clause-moves
returns-in-Ok-clause-moves g c =
    let reads = subst (ReadsOld g.C.Cabinet g.C.Disk.Disk c.args.old.now c.args.of.scope c.args.of.old.now (held c.args.outside.now).cabinet c.read_old.new.cabinet) c.in-Ok.is c.read_old.ensures.reads in
    inr (c.in-Ok.stated, c.read_old.new.cabinet, reads, c.enter_enough.ensures.enters)

pub returns-in-Err-clause-moves : goal.returns-in-Err-clause-moves
returns-in-Err-clause-moves g c =
    let reads = subst (ReadsOld g.C.Cabinet g.C.Disk.Disk c.args.old.now c.args.of.scope c.args.of.old.now (held c.args.outside.now).cabinet c.read_old.new.cabinet) c.in-Err.is c.read_old.ensures.reads in
    inl (c.in-Err.why, refl, reads, refl)
