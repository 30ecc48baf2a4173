use Rattle.std.proofs.Common.{rules, ◌∷◌, ◌∙◌, ap, sym, refl, Some, None}
use Rattle.atomic_table.specs.Table.{rest}
use Rattle.hose_turn.proofs.Steps.{begins}
use Rattle.hose_turn.proofs.turn.Turn.begin.Goals as goal

pub compare_exchange_with-requires : goal.compare_exchange_with-requires
compare_exchange_with-requires g c = let origin = c.requires.stands in
    (search rules, search rules, begins g.S.HoldsHistory.stands g.S.HoldsHistory.faults _ _ _ _ c.args.value origin.0 (ap (λ me. me.0) c.requires.unborn) origin.1 (c.epoch-epoch.ensures _ _ _ origin.1))

pub exchange-requires : goal.exchange-requires
exchange-requires g c =
    let there = ap (λ me. me.1) (c.compare_exchange_with.ensures.2 c.args.value refl).3 in
    (search rules, (None, there ∙ ap (λ slots. (0, None) ∷ rest slots) (sym there)))

pub returns-clause-begun : goal.returns-clause-begun
returns-clause-begun g c =
    let begun = c.compare_exchange_with.ensures.2 c.args.value refl in
    let none_left = ap (λ me. rest me.1) begun.3 ∙ ap (λ me. me.1) c.requires.unborn in
    let view = ap (λ me. me.0) begun.3 in
    (begun.0, begun.1, begun.2, c.exchange.ensures.3 ∙ (λ i. (view i, (0, Some c.args.value) ∷ none_left i)))
