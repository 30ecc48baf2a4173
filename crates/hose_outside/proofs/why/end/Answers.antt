use Rattle.std.proofs.Common.{refl, rules}
use Rattle.hose_outside.specs.Fault.{last_line}
use Rattle.hose_outside.specs.declared.why.Why.TheVariants.{Stopped}
use Rattle.hose_outside.proofs.Told.{put_out, told_alone, told_done}
use Rattle.hose_outside.proofs.why.end.Goals as goal

pub returns-in-Ok : goal.returns-in-Ok
returns-in-Ok g c = rw c.in-Ok.is (record { is = refl; status = refl; last_line = refl; told = told_done g.O.Sink c.args.output.now; output = search rules })

pub returns-in-Err : goal.returns-in-Err
returns-in-Err g c =
    let put = c.put.ensures.put in
    let out = put_out g.O.Sink c.args.output.now c.put.new.output (last_line c.in-Err.met) _ put in
    rw c.in-Err.is (record { is = refl; status = refl; last_line = out; told = told_alone g.O.Sink c.put.new.output c.args.output.now (Stopped c.in-Err.met) out; output = put.met.stays })
