use Rattle.std.proofs.Common.{◌≡◌, Err, sym, subst, rules}
use Rattle.hose_outside.specs.Reading.{ReadsText}
use Rattle.hose_outside.specs.declared.fault.Fault.{Fault}
use Rattle.hose_outside.specs.TopologyTold.{own_costs}
use Rattle.hose_outside.specs.declared.notation.Notation.TheVariants.{Lines}
use Rattle.hose_outside.proofs.TextsRead.{lines_err, lines_ok}
use Rattle.hose_outside.proofs.reading.read_text.Goals as goal

pub returns-in-Ok : goal.returns-in-Ok
returns-in-Ok g c =
    let last = c.read-topology.new.lines in
    let read = c.read-topology.ensures in
    let made = c.new.ensures in
    let told = c.in-Ok.ensures in
    let behind : c.cabinet-1.given.0 ≡ last.source.cabinet.now = search rules in
    record {
      reads = lines_ok g.C.Cabinet c.args.cabinet.now _ c.args.name.now c.new.result c.new-lines.result last c.new-lines.ensures made.value made.name made.from (sym behind) c.requires read.reads_on read.limit
          c.in-Ok.topology told.network (λ is. cc (is, told.fault.1)) (λ few more. cc ((read.too_long few).1 more, c.in-Ok.is)) told.topology;
    }

pub returns-in-Err : goal.returns-in-Err
returns-in-Err g c =
    let last = c.read-topology.new.lines in
    let read = c.read-topology.ensures in
    let made = c.new.ensures in
    let behind : c.cabinet-1.given.0 ≡ last.source.cabinet.now = search rules in
    record {
      reads = subst (λ (f : Fault). ReadsText g.C.Cabinet c.args.cabinet.now c.cabinet-1.given.0 Lines own_costs c.args.name.now (Err f)) (sym c.of_topology.ensures)
          (lines_err g.C.Cabinet c.args.cabinet.now _ c.args.name.now c.new.result c.new-lines.result last c.new-lines.ensures made.value made.name made.from (sym behind) c.requires read.reads_on read.limit
          c.read-topology.result c.in-Err.fault c.in-Err.is read.wrong read.no_text read.front read.read read.too_long read.memory read.fault);
    }
