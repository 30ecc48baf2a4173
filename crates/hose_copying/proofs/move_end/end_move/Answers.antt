use Rattle.std.proofs.Common.{refl}
use Rattle.hose_outside.specs.MoveStop.{stop_line}
use Rattle.hose_outside.specs.declared.why.Why.TheVariants.{NotMoved}
use Rattle.hose_outside.proofs.Told.{put_out, told_alone}
use Rattle.hose_copying.proofs.move_end.end_move.Goals as goal

pub returns-in-Err : goal.returns-in-Err
returns-in-Err g c =
    let out = put_out g.O.Sink c.args.output.now c.put.new.output (stop_line c.in-Err.stop) _ c.put.ensures in
    rw c.in-Err.is (record { came = (refl, out); told = told_alone g.O.Sink c.put.new.output c.args.output.now (NotMoved c.in-Err.stop) out; stays = c.put.ensures.met.stays; is = refl })
