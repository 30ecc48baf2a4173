use Rattle.std.proofs.Common.{rules, inr, ◌≡◌, ◌∷◌, [], ◌∙◌, List, ℕ, ap, sym, subst, arith, length}
use mathlib.Core.List.{IsPrefix}
use Rattle.hose_graph.specs.declared.entry.Entry.{Entry}
use Rattle.hose_turn.specs.declared.view.View.{View}
use Rattle.hose_turn.specs.steps.Places.{HasSomePlaces, AreApart}
use Rattle.hose_turn.specs.steps.Views.{view_of, glued, settled, IsAtRest}
use Rattle.hose_turn.proofs.Idle.{own_places, rests_there}
use Rattle.hose_turn.proofs.Places.{rests_both, places_apart}
use Rattle.hose_turn.proofs.Steps.{joins, settles}
use Rattle.hose_turn.proofs.turn.Turn.join.Goals as goal

pub into_seat-seat-requires : goal.into_seat-seat-requires
into_seat-seat-requires g c =
    let one = (rests_there c.pass.inside.badge.table_id c.pass.inside.badge.views c.pass.invariant c.pass.view_is c.requires.turn c.self.view_is c.self.invariant.0).one in
    (view_of c.pass.inside.badge.views, search rules)

pub join_seat-requires : goal.join_seat-requires
join_seat-requires g c =
    let views : c.pass.inside.badge.views ≡ c.into_seat-seat.result.me.0 ∷ [] = search rules in
    let share = ap (λ views. (view_of views).share) views in let live = (rests_there c.pass.inside.badge.table_id c.pass.inside.badge.views c.pass.invariant c.pass.view_is c.requires.turn c.self.view_is c.self.invariant.0).rests.live in
    (search rules, search rules, search rules, search rules, joins g.S.HoldsHistory.stands g.S.HoldsHistory.faults _ _ _ _ (omega arith) c.take_seat.ensures.rests.ticket)

pub load-requires : goal.load-requires
load-requires g c =
    let views : c.pass.inside.badge.views ≡ c.into_seat-seat.result.me.0 ∷ [] = search rules in
    let both = c.join_seat.ensures.2 in
    let share = ap (λ views. (view_of views).share) views in let live = (rests_there c.pass.inside.badge.table_id c.pass.inside.badge.views c.pass.invariant c.pass.view_is c.requires.turn c.self.view_is c.self.invariant.0).rests.live in let shares = ap (λ me. me.0.share) both in
    let off = ap (λ me. me.0.has_turn) both ∙ (sym (ap (λ views. (view_of views).has_turn) views) ∙ (rests_there c.pass.inside.badge.table_id c.pass.inside.badge.views c.pass.invariant c.pass.view_is c.requires.turn c.self.view_is c.self.invariant.0).rests.turn) in
    (search rules, search rules, settles g.S.HoldsHistory.stands g.S.HoldsHistory.faults _ _ _ (omega arith) off)

pub invariant_of-pass : goal.invariant_of-pass
invariant_of-pass g c =
    let a : View = c.into_seat-seat.result.me.0 in
    let b : View = c.take_seat.result.me.0 in
    let before : c.pass.inside.badge.views ≡ a ∷ [] = search rules in
    let mine : IsAtRest a = subst IsAtRest (ap view_of before) (rests_there c.pass.inside.badge.table_id c.pass.inside.badge.views c.pass.invariant c.pass.view_is c.requires.turn c.self.view_is c.self.invariant.0).rests in
    let both = ap (λ me. me.0) c.join_seat.ensures.2 in
    let told = c.load.ensures.2 in
    let longer : List Entry = told.0 in
    let view : c.load.new.seat.me.0 ≡ settled (glued a b) longer = ap (λ me. me.0) told.1 ∙ ap (λ v. settled v longer) both in
    let views : c.into_badge.result.views ≡ settled (glued a b) longer ∷ [] = c.into_badge.ensures.2 ∙ ap (λ v. v ∷ []) view in
    let seen = subst (λ (v : View). IsPrefix v.seen longer) both told.2 in
    let heard = subst (λ (v : View). IsPrefix v.told longer) both told.3 in
    let owned = subst (λ (v : View). (last : ℕ) × HasSomePlaces (length v.origin.since) last v.own) both told.5 in
    inr (record {
      one = views ∙ sym (ap (λ vs. view_of vs ∷ []) views);
      rests = subst IsAtRest (sym (ap view_of views)) (rests_both a b longer owned.0 mine c.take_seat.ensures.rests seen heard owned.1);
    })

pub returns : goal.returns
returns g c =
    let a : View = c.into_seat-seat.result.me.0 in
    let b : View = c.take_seat.result.me.0 in
    let before : c.pass.inside.badge.views ≡ a ∷ [] = search rules in
    let both = ap (λ me. me.0) c.join_seat.ensures.2 in
    let owned = subst (λ (v : View). (last : ℕ) × HasSomePlaces (length v.origin.since) last v.own) both c.load.ensures.2.5 in
    let mine = sym (ap (λ k. k.own) c.pass.view_is) ∙ ap (λ vs. (view_of vs).own) before in
    let theirs = ap (λ k. k.own) c.take_seat.ensures.known in
    record {
      same = search rules;
      share = search rules;
      own = search rules;
      tried = search rules;
      apart = subst (λ (z : List ℕ × List ℕ). AreApart z.0 z.1) (λ i. (sym mine i, theirs i)) (places_apart _ owned.0 a.own b.own owned.1);
      places = own_places c.into_badge.result.table_id c.into_badge.result.views (invariant_of-pass g c);
      faults = search rules;
      one = search rules;
      seen = search rules;
      told = search rules;
    }
