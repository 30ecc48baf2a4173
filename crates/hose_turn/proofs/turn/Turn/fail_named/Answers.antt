use Rattle.std.proofs.Common.{rules}
use Rattle.hose_turn.proofs.Steps.{tries}
use Rattle.hose_turn.proofs.turn.Turn.fail_named.Goals as goal

pub load-requires : goal.load-requires
load-requires g c = (search rules, search rules, tries g.S.HoldsHistory.stands g.S.HoldsHistory.faults _ _ _ g.N.Counted.entry (search rules) (search rules))
