use Rattle.std.proofs.Common.{rules, arith}
use Rattle.hose_turn.proofs.Steps.{counts}
use Rattle.hose_turn.proofs.turn.Turn.count_named.Goals as goal

pub fetch_add-requires : goal.fetch_add-requires
fetch_add-requires g c =
    let small = c.epoch-epoch.type_inv in
    let is = c.epoch-epoch.ensures _ _ _ c.requires.stands in
    (search rules, search rules, counts g.S.HoldsHistory.stands g.S.HoldsHistory.faults _ _ _ g.N.Counted.entry (search rules) (search rules) (omega arith))
