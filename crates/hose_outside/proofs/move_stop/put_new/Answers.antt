use Rattle.std.proofs.Common.{◌≡◌, Err, codes, rules}
use Rattle.hose_outside.specs.Fault.{last_line}
use Rattle.hose_outside.proofs.Told.{put_next, put_part}
use Rattle.hose_outside.proofs.move_stop.put_new.Goals as goal

pub returns-in_err-write_all : goal.returns-in_err-write_all
returns-in_err-write_all g c =
    let is : c.from_residual.result ≡ Err c.in_err-write_all.field-0.0 = search rules in
    rw is (put_part (codes "new ") (last_line c.args.why) _ _ c.in_err-write_all.ensures.put)

pub returns : goal.returns
returns g c = put_next (codes "new ") (last_line c.args.why) _ _ c.in_ok-write_all.ensures.put c.put.ensures.put
