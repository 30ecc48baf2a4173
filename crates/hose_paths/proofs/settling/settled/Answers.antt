-- A settled table has the distances, and they are small.
use Rattle.hose_paths.proofs.Made.{distances_made}
use Rattle.hose_paths.proofs.settling.settled.Goals as goal

pub returns-clause-distances : goal.returns-clause-distances
returns-clause-distances c =
    distances_made c.args.top.now c.args.links.now c.args.root c.args.dist.items c.requires.found c.requires.settled c.requires.network _ c.requires.places c.requires.bounded

pub returns-clause-bounded : goal.returns-clause-bounded
returns-clause-bounded c = (returns-clause-distances c).bounded
