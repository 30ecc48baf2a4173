use Rattle.std.proofs.Common.{rules, ◌≡◌, ◌∷◌, [], ap, arith}
use Rattle.hose_turn.specs.steps.Views.{view_of}
use Rattle.hose_turn.proofs.Steps.{splits}
use Rattle.hose_turn.proofs.turn.Turn.split.Goals as goal

pub split_seat-other-requires : goal.split_seat-other-requires
split_seat-other-requires g c =
    let views : c.pass.inside.badge.views ≡ c.into_seat-seat.result.me.0 ∷ [] = search rules in
    let share = ap (λ views. (view_of views).share) views in
    let known = ap (λ known. known.share) c.pass.view_is in let two = c.requires.share in
    (search rules, search rules, splits g.S.HoldsHistory.stands g.S.HoldsHistory.faults _ _ (omega arith))
