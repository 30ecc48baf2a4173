use Rattle.std.proofs.Common.{inr, refl, subst, sym, true}
use Rattle.hose_io.proofs.Frames.{Stays-next}
use Rattle.hose_io.proofs.Streams.{GrowsInPart-append}
use Rattle.hose_audit.specs.Audit.{audit_text}
use Rattle.hose_outside.proofs.Named.{out_after}
use Rattle.hosed_host.specs.HostWhy.{TellsWhy, last_of_host}
use Rattle.hosed_host.specs.steps.HostOutcome.{why_of_standby}
use Rattle.hosed_host.proofs.hosting.tell_standby.Goals as goal

pub returns-in-Ok : goal.returns-in-Ok
returns-in-Ok g c =
    let put = c.in-Ok.ensures in
    let text = audit_text c.args.book.now.network c.args.book.now.book in
    let out = out_after g.O.Sink c.args.output.now c.audit.new.sink c.put_last.new.output text (last_of_host (why_of_standby c.args.ahead)) put.ok put.met.ok c.put_last.ensures.out in
    record {
      is = c.put_last.ensures.is;
      out = out;
      told = subst (TellsWhy g.O.Sink c.put_last.new.output) (sym c.put_last.ensures.is) (record { was = c.args.output.now; text = text; out = out });
      stays = Stays-next put.met.stays c.put_last.ensures.stays;
    }

pub returns-in-Err : goal.returns-in-Err
returns-in-Err g c =
    let put = c.in-Err.ensures in
    let text = audit_text c.args.book.now.network c.args.book.now.book in
    let out = inr (put.met.failed (refl {a = true}), GrowsInPart-append _ _ text (last_of_host (why_of_standby c.args.ahead)) put.err) in
    record {
      is = c.why_of_standby.ensures;
      out = out;
      told = subst (TellsWhy g.O.Sink c.audit.new.sink) (sym c.why_of_standby.ensures) (record { was = c.args.output.now; text = text; out = out });
      stays = put.met.stays;
    }
