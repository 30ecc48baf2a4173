use Rattle.hose_law.proofs.Numbers.{free_is_empty}
use Rattle.hose_core.proofs.quotes.Quotes.hold.Goals as goal

pub put-requires-clause-empty : goal.put-requires-clause-empty
put-requires-clause-empty c = free_is_empty c.args.self.now c.args.number c.requires.free
