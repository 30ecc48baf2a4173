use Rattle.hose_crew.proofs.Gathering.{still_of}
use Rattle.hose_crew.proofs.crew.take_places.Goals as goal

pub split-requires-clause-of : goal.split-requires-clause-of
split-requires-clause-of g c = still_of c.args.shared.now c.args.first.now.value c.loop-number.pass c.loop-number.invariant.1 c.requires.of
