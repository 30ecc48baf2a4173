use Rattle.std.proofs.Common.{◌≡◌, ◌++◌, ◌∷◌, map, ap, refl, rules, ◌∙◌}
use Rattle.std.proofs.lemmas.List.{map-append}
use Rattle.hose_crew.proofs.GivingBack.{may_next, none_back}
use Rattle.hose_crew.proofs.hand.give_back.Goals as goal

pub loop-done-init : goal.loop-done-init
loop-done-init g c = (search rules, search rules, none_back (g.L.Door.told c.args.door.now), search rules, refl, refl)

pub back-requires : goal.back-requires
back-requires g c =
    let split : c.args.ended.items ≡ c.loop-done.yielded ++ c.in-Some.done ∷ c.next.new.self.rest.items = search rules in
    may_next (g.L.Door.told c.args.door.now) _ (map g.L.Door.came_to c.args.ended.items) (map g.L.Door.came_to c.loop-done.yielded) (map g.L.Door.came_to c.next.new.self.rest.items) (g.L.Door.came_to c.in-Some.done)
    (ap (λ (all : _). map g.L.Door.came_to all) split ∙ map-append g.L.Door.came_to c.loop-done.yielded (c.in-Some.done ∷ c.next.new.self.rest.items)) c.requires.may c.loop-done.invariant.2
