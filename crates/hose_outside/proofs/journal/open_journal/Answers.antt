use Rattle.std.proofs.Common.{Err}
use Rattle.hose_outside.proofs.Lending.{others_then}
use Rattle.hose_outside.proofs.PutBack.{opens_none}
use Rattle.hose_outside.proofs.journal.open_journal.Goals as goal

pub returns-in-Ok-open_store-clause-opens : goal.returns-in-Ok-open_store-clause-opens
returns-in-Ok-open_store-clause-opens g c =
    let taken = c.in-Ok.ensures in
    record {
      was = c.in-Ok.disk;
      taken = record { content = taken.content; images = taken.images; moment = taken.moment; fresh = taken.opened; call = taken.call };
      opens = c.in-Ok-open_store.ensures.opens;
    }

pub returns-in-Err-clause-refused : goal.returns-in-Err-clause-refused
returns-in-Err-clause-refused g c =
    let taken = c.in-Ok.ensures in
    let back = c.back.ensures in
    opens_none g.C.Cabinet g.C.Disk.Disk c.args.name.now c.args.cabinet.now c.disk.new.self c.back.new.self c.args.topology c.in-Ok.disk c.in-Err.refused.1
    (record { out = record { content = taken.content; images = taken.images; moment = taken.moment; fresh = taken.opened; call = taken.call }; in_place = record { held = back.held; never_falls = back.never_falls; call = back.call } }) (Err c.in-Err.refused.0) c.in-Err.ensures.refused

pub returns-in-Err-clause-others : goal.returns-in-Err-clause-others
returns-in-Err-clause-others g c = others_then g.C.Cabinet c.args.name.now c.args.cabinet.now c.disk.new.self c.back.new.self c.in-Ok.ensures.call.taken_out c.disk.ensures.others c.back.ensures.others
