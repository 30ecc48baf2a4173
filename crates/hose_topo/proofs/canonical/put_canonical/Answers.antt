use Rattle.std.proofs.Common.{rules}
use Rattle.hose_io.proofs.Gathering.{IsPut-finished}
use Rattle.hose_topo.proofs.CanonicalText.{canonical_reads}
use Rattle.hose_topo.proofs.canonical.put_canonical.Goals as goal

pub returns-clause-put : goal.returns-clause-put
returns-clause-put g c =
    let put = IsPut-finished c.finish.result (rw c.new.ensures at c.add_canonical.ensures.0) c.finish.ensures in
    let ok = put.ok in
    let err = put.err in
    let met = put.met in
    search rules

pub returns-clause-reads : goal.returns-clause-reads
returns-clause-reads g c = λ rest. canonical_reads c.args.top.now rest c.nodes-nodes.ensures.network c.requires.some
