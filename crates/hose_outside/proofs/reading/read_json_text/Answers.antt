use Rattle.std.proofs.Common.{◌≡◌, sym, rules}
use Rattle.hose_outside.proofs.TextsRead.{read_json_as}
use Rattle.hose_outside.proofs.reading.read_json_text.Goals as goal

pub returns : goal.returns
returns g c =
    let first = c.new-text.result in
    let made = c.new-text.ensures in
    let last = c.read_whole_json-topology.new.source in
    let read = c.read_whole_json-topology.ensures in
    let behind : c.cabinet-1.given.0 ≡ last.cabinet.now = search rules in
    record {
      reads = read_json_as g.C.Cabinet c.args.cabinet.now _ c.args.name.now first last made.value made.name made.from (sym behind) read.gone c.requires
          c.read_whole_json-topology.result read.takes.0 read.takes.1 read.takes.2 read.takes.3 read.json read.failed read.held;
    }
