use Rattle.std.proofs.Common.{inl, inr, refl, true}
use Rattle.hose_outside.proofs.Told.{told_done, told_failed}
use Rattle.hose_copying.proofs.move_end.end_whole.Goals as goal

pub returns-in-Ok : goal.returns-in-Ok
returns-in-Ok g c =
    let put = c.in-Ok.ensures in
    record { came = inl (refl, put.ok, put.met.ok); told = told_done g.O.Sink c.put_moved.new.output; stays = put.met.stays; is = inl refl }

pub returns-in-Err : goal.returns-in-Err
returns-in-Err g c =
    let put = c.in-Err.ensures in
    record { came = inr (refl, put.met.failed (refl {a = true}), put.err); told = told_failed g.O.Sink c.put_moved.new.output; stays = put.met.stays; is = inr refl }
