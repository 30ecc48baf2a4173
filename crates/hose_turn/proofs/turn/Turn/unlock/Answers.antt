use Rattle.std.proofs.Common.{rules, ap, sym, subst, ◌≤◌}
use Rattle.hose_turn.proofs.Steps.{passes}
use Rattle.hose_turn.proofs.Faults.{rise_fits}
use Rattle.hose_turn.specs.steps.Faults.{rise}
use Rattle.hose_turn.proofs.turn.Turn.unlock.Goals as goal

pub fetch_add-mine-requires : goal.fetch_add-mine-requires
fetch_add-mine-requires g c = let view = ap (λ me. me.0) c.exchange.ensures.3 in (
  search rules,
  search rules,
  passes g.S.HoldsHistory.stands g.S.HoldsHistory.faults rise _ _ _ c.args.held.value rise_fits (search rules) (search rules) (search rules)
      (subst (λ v. g.S.HoldsHistory.stands v.origin v.seen v.all_tried c.args.held.value) (sym view) c.requires.stands)
      (subst (λ v. v.floor ≤ g.S.HoldsHistory.faults c.args.held.value) (sym view) c.requires.faults),
)
