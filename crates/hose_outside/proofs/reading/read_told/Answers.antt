use Rattle.std.proofs.Common.{ℕ}
use Rattle.hose_outside.specs.TopologyTold.{notation_of}
use Rattle.hose_outside.proofs.TextsRead.{not_given, read_then}
use Rattle.hose_outside.proofs.reading.read_told.Goals as goal

pub returns-in_default : goal.returns-in_default
returns-in_default g c = record {
  reads = not_given g.C.Cabinet c.args.cabinet.now c.text.new.self c.args.name.now c.text.ensures.texts c.text.ensures.disks c.text.ensures.absent {T = ℕ} c.in_default.field-0 c.in_default.ensures.call (notation_of c.args.name.now);
}

pub returns : goal.returns
returns g c = record {
  reads = read_then g.C.Cabinet c.args.cabinet.now c.text.new.self c.args.name.now c.text.ensures.texts c.text.ensures.disks c.text.ensures.absent {T = ℕ} c.in-Ok.field-0 c.read_there.new.cabinet c.in-Ok.ensures.call
      (notation_of c.args.name.now) c.read_there.result (λ told none. absurd (cc (c.in-Ok.ensures.refused told none))) c.read_there.ensures.reads;
}
