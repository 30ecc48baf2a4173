use Rattle.std.proofs.Common.{rules, ◌≡◌, ◌<◌, ◌∙◌, [], ap, sym, subst, refl, arith}
use Rattle.hose_turn.specs.steps.Faults.{no_rise}
use Rattle.hose_turn.specs.steps.Known.{first_known}
use Rattle.hose_turn.specs.steps.Views.{passed_on, known_of, IsAtRest}
use Rattle.hose_turn.proofs.Places.{no_places}
use Rattle.hose_turn.proofs.Steps.{passes}
use Rattle.hose_turn.proofs.turn.Turn.from_ticket.Goals as goal

pub fetch_add-requires : goal.fetch_add-requires
fetch_add-requires g c =
    let begun = c.begin.ensures.begun in
    let view = ap (λ me. me.0) begun.3 in
    let floor = ap (λ view. view.floor) view in (
      search rules,
      search rules,
      passes g.S.HoldsHistory.stands g.S.HoldsHistory.faults no_rise _ _ _ c.args.value (λ floor count le small. omega arith)
          (subst (λ view. 0 < view.share) (sym view) (omega arith)) (ap (λ view. view.has_turn) view) (ap (λ me. me.1) begun.3)
          (subst (λ view. g.S.HoldsHistory.stands view.origin view.seen view.all_tried c.args.value) (sym view) begun.2) (omega arith),
    )

pub of-requires-clause-rests : goal.of-requires-clause-rests
of-requires-clause-rests g c =
    let begun = c.begin.ensures.begun in
    let passed = c.fetch_add.ensures.2 c.args.value (ap (λ me. me.1) begun.3) in
    subst IsAtRest (sym (ap (λ me. me.0) passed ∙ ap (λ me. passed_on me.0 0) begun.3)) (record { live = omega arith; ticket = refl; turn = refl; told = refl; own = no_places _ _ })

pub of-requires-clause-slots : goal.of-requires-clause-slots
of-requires-clause-slots g c = ap (λ me. me.1) (c.fetch_add.ensures.2 c.args.value (ap (λ me. me.1) c.begin.ensures.begun.3))

pub returns-clause-first : goal.returns-clause-first
returns-clause-first g c =
    let begun = c.begin.ensures.begun in
    let passed = c.fetch_add.ensures.2 c.args.value (ap (λ me. me.1) begun.3) in
    let view = ap (λ me. me.0) passed ∙ ap (λ me. passed_on me.0 0) begun.3 in
    let table : c.fetch_add.new.seat.table_id ≡ c.in-Ok-vacant.board.shared.table_id = search rules in
    let is : c.of.result ≡ first_known c.in-Ok-vacant.board.shared.table_id begun.0 = c.of.ensures ∙ (λ i. known_of (table i) (view i)) in
    is ∙ ap (λ known. first_known c.in-Ok-vacant.board.shared.table_id known.origin) (sym is)

pub returns-clause-stands : goal.returns-clause-stands
returns-clause-stands g c =
    let begun = c.begin.ensures.begun in
    let passed = c.fetch_add.ensures.2 c.args.value (ap (λ me. me.1) begun.3) in
    let origin = ap (λ known. known.origin) c.of.ensures ∙ (ap (λ me. me.0.origin) passed ∙ ap (λ me. me.0.origin) begun.3) in
    subst (λ origin. g.S.HoldsHistory.stands origin origin.since [] c.args.value) (sym origin) begun.2
