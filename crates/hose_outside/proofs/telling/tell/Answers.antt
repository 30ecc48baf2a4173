use Rattle.std.proofs.Common.{inl, inr, refl, true}
use Rattle.hose_audit.specs.Audit.{audit_text}
use Rattle.hose_io.proofs.Frames.{Stays-next}
use Rattle.hose_io.proofs.Streams.{GrowsInPart-append}
use Rattle.hose_outside.specs.Fault.{last_line}
use Rattle.hose_outside.specs.declared.why.Why.TheVariants.{Stopped}
use Rattle.hose_outside.proofs.Named.{out_after}
use Rattle.hose_outside.proofs.Told.{told_after, told_done, told_failed}
use Rattle.hose_outside.proofs.telling.tell.Goals as goal

pub returns-in-Ok-told : goal.returns-in-Ok-told
returns-in-Ok-told g c =
    let put = c.in-Ok-told.ensures in
    rw c.in-Ok.is (record { came = inl (refl, put.ok, put.met.ok); told = told_done g.O.Sink c.audit-told.new.sink; stays = put.met.stays; is = inl refl })

pub returns-in-Err-told : goal.returns-in-Err-told
returns-in-Err-told g c =
    let put = c.in-Err-told.ensures in
    rw c.in-Ok.is (record { came = inr (refl, put.met.failed (refl {a = true}), put.err); told = told_failed g.O.Sink c.audit-told.new.sink; stays = put.met.stays; is = inr refl })

pub returns-in-Ok-told-2 : goal.returns-in-Ok-told-2
returns-in-Ok-told-2 g c =
    let put = c.in-Ok-told-2.ensures in
    let text = audit_text c.args.book.now.network c.args.book.now.book in
    record {
      came = rw c.in-Err.is (c.end.ensures.status, out_after g.O.Sink c.args.output.now c.audit-told.new.sink c.end.new.output text (last_line c.in-Err.why) put.ok put.met.ok c.end.ensures.last_line);
      told = c.end.ensures.told;
      stays = Stays-next put.met.stays c.end.ensures.output;
      is = rw c.in-Err.is c.end.ensures.is;
    }

pub returns-in-Err-told-2 : goal.returns-in-Err-told-2
returns-in-Err-told-2 g c =
    let put = c.in-Err-told-2.ensures in
    let text = audit_text c.args.book.now.network c.args.book.now.book in
    let out = inr (put.met.failed (refl {a = true}), GrowsInPart-append _ _ text (last_line c.in-Err.why) put.err) in
    record {
      came = rw c.in-Err.is (refl, out);
      told = told_after g.O.Sink c.audit-told.new.sink c.args.output.now text (Stopped c.in-Err.why) out;
      stays = put.met.stays;
      is = rw c.in-Err.is refl;
    }
