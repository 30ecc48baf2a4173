use Rattle.std.proofs.Common.{take}
use Rattle.hose_law.specs.History.{book_of}
use Rattle.hose_law.proofs.CanonicalPlans.{same_decisions}
use Rattle.hose_law.proofs.law_grounds.Goals as goal

pub returns : goal.returns
returns c =
    same_decisions c.args.top.now (book_of c.args.e0 (take c.args.i c.args.h.now)) (book_of c.args.e0 (take c.args.j c.args.h.now)) c.args.hose.now c.requires
