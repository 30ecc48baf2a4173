use Rattle.std.proofs.Common.{rules, ◌≡◌, ◌≤◌, ◌⊎◌, List, ◌∙◌, ap, subst}
use Rattle.hose_graph.specs.declared.entry.Entry.{Entry}
use Rattle.hose_turn.specs.Faults.{end_of_count}
use Rattle.hose_turn.specs.Known.{Known}
use Rattle.hose_turn.specs.declared.view.Tried.{Tried}
use Rattle.hose_turn.specs.steps.Known.{HasWholeHistory}
use Rattle.hose_turn.proofs.Steps.{closes}
use Rattle.hose_turn.proofs.turn.Turn.close.Goals as goal

pub unwrap-requires : goal.unwrap-requires
unwrap-requires g c =
    let placed = c.take_seat-seat.ensures in
    let found = closes g.S.HoldsHistory.stands g.S.HoldsHistory.faults c.take_seat-seat.result.table_id c.take_seat-seat.result.id c.take_seat-seat.result.me.0
    (ap (λ known. known.share) placed.known ∙ c.requires.share) placed.rests.ticket _ _ c.close_with-closed.ensures.values.2 _ c.take-value.ensures.value in
    search rules

pub returns-clause-history : goal.returns-clause-history
returns-clause-history g c =
    let placed = c.take_seat-seat.ensures in
    let found = closes g.S.HoldsHistory.stands g.S.HoldsHistory.faults c.take_seat-seat.result.table_id c.take_seat-seat.result.id c.take_seat-seat.result.me.0
    (ap (λ known. known.share) placed.known ∙ c.requires.share) placed.rests.ticket _ _ c.close_with-closed.ensures.values.2 _ c.take-value.ensures.value in
    let same : found.0 ≡ c.unwrap.result = search rules in
    subst (λ (z : Known × g.row.S.Denot). (history : List Entry) × (tries : List Tried) × HasWholeHistory g.S.HoldsHistory.stands z.0 history tries z.1) (λ i. (placed.known i, same i)) found.2

pub returns-clause-faults : goal.returns-clause-faults
returns-clause-faults g c =
    let placed = c.take_seat-seat.ensures in
    let found = closes g.S.HoldsHistory.stands g.S.HoldsHistory.faults c.take_seat-seat.result.table_id c.take_seat-seat.result.id c.take_seat-seat.result.me.0
    (ap (λ known. known.share) placed.known ∙ c.requires.share) placed.rests.ticket _ _ c.close_with-closed.ensures.values.2 _ c.take-value.ensures.value in
    let same : found.0 ≡ c.unwrap.result = search rules in
    subst (λ (z : Known × g.row.S.Denot). (z.0.faults ≤ g.S.HoldsHistory.faults z.1) ⊎ (end_of_count ≤ g.S.HoldsHistory.faults z.1)) (λ i. (placed.known i, same i)) found.3
