use Rattle.std.proofs.Common.{subst, List, ℕ}
use Rattle.hose_journal.specs.steps.AtGate.{IsPart}
use Rattle.hose_journal.proofs.Readings.{at_gate}
use Rattle.hose_journal.proofs.reading.Reading.here.Goals as goal

pub returns : goal.returns
returns g c = λ digest entries reads reaches no_seal.
    let reading = c.args.self.now in
    at_gate g.D.Disk reading digest entries reads reaches c.part.result no_seal
    (subst (λ (bytes : List ℕ). IsPart reading.sealed digest entries bytes c.part.result) c.rest.ensures (c.part.ensures digest entries reads.size reads.chain))
