use Rattle.std.proofs.Common.{ap, rules, sym}
use Rattle.hose_outside.specs.declared.why.Why.TheVariants.{Stopped}
use Rattle.hose_outside.proofs.Told.{told_failed}
use Rattle.hosed.proofs.Served.{ends_unserved, ends_unwritten}
use Rattle.hosed.proofs.server.tell_unserved.Goals as goal

pub returns-in-Write : goal.returns-in-Write
returns-in-Write g c = record {
  came = ends_unwritten g.O.Sink c.args.output.now c.args.why c.in-Write.is;
  told = told_failed g.O.Sink c.args.output.now;
  stays = search rules;
  is = ap Stopped (sym c.in-Write.is);
}

pub returns-in_default : goal.returns-in_default
returns-in_default g c = record {
  came = ends_unserved g.O.Sink c.args.output.now c.end.new.output _ c.args.why c.in_default.not-Write c.end.ensures.status c.end.ensures.last_line;
  told = c.end.ensures.told;
  stays = c.end.ensures.output;
  is = c.end.ensures.is;
}
