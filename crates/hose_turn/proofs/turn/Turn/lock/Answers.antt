use Rattle.std.proofs.Common.{rules, ◌≡◌, ◌∷◌, ◌∙◌, ap, sym, Some, arith}
use Rattle.atomic_table.specs.Table.{rest}
use Rattle.hose_turn.proofs.Steps.{draws, looks}
use Rattle.hose_turn.proofs.turn.Turn.lock.Goals as goal

pub fetch_add-mine-requires : goal.fetch_add-mine-requires
fetch_add-mine-requires g c = let rests = c.take_seat-seat.ensures.rests in
    (search rules, search rules, draws g.S.HoldsHistory.stands g.S.HoldsHistory.faults _ _ _ rests.live rests.ticket)

pub load-requires : goal.load-requires
load-requires g c =
    let rests = c.take_seat-seat.ensures.rests in
    let me = c.loop.invariant.1 ∙ c.fetch_add-mine.ensures.2.2 in
    let share = ap (λ me. me.0.share) me in let live = rests.live in
    (search rules, search rules, looks g.S.HoldsHistory.stands g.S.HoldsHistory.faults _ _ _ (omega arith) (ap (λ me. me.0.has_turn) me ∙ rests.turn))

pub exchange-requires : goal.exchange-requires
exchange-requires g c =
    let drew = c.fetch_add-mine.ensures.2 in
    let me = c.loop.invariant.1 ∙ drew.2 in
    let same : c.load.result ≡ c.fetch_add-mine.result = search rules in
    let took = (c.load.ensures.2 drew.0 (ap (λ me. me.0.ticket) me)).0 (same ∙ drew.1) in
    let there = ap (λ me. me.1) took.6 in
    (search rules, (Some took.0, there ∙ ap (λ slots. (0, Some took.0) ∷ rest slots) (sym there)))

pub unwrap-value-requires : goal.unwrap-value-requires
unwrap-value-requires g c =
    let drew = c.fetch_add-mine.ensures.2 in
    let me = c.loop.invariant.1 ∙ drew.2 in
    let same : c.load.result ≡ c.fetch_add-mine.result = search rules in
    let took = (c.load.ensures.2 drew.0 (ap (λ me. me.0.ticket) me)).0 (same ∙ drew.1) in
    let there = ap (λ me. me.1) took.6 in search rules
