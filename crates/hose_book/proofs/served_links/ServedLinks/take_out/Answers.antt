use Rattle.std.proofs.Common.{◌≡◌, ◌∙◌, ◌<◌, ◌+◌, ◌≤◌, false, true, length, set, get_or, sym, ap, subst, arith}
use Rattle.hose_law.specs.Service.{taken_out}
use Rattle.hose_book.specs.steps.Serving.{IsSetInService, Served}
use Rattle.hose_book.proofs.Served.{room_left, served_out}
use Rattle.hose_book.proofs.served_links.ServedLinks.take_out.Goals as goal

pub push_reserved-requires : goal.push_reserved-requires
push_reserved-requires c =
    let link = c.args.link in
    let served : Served = record { links = c.self.inside.links; out = c.self.inside.out.items } in
    let inside : link < length served.links = omega (arith, c.requires.link, ap (λ (s : Served). length s.links) c.self.view_is) in
    let free : get_or served.links link false ≡ true = ap (λ (s : Served). get_or s.links link false) c.self.view_is ∙ c.requires.served in
    let room : length served.out + 1 ≤ length served.links = room_left served c.self.invariant.0 link inside free in
    omega (arith, room, c.self.invariant.0.few, c.self.invariant.1)

pub invariant_of-self : goal.invariant_of-self
invariant_of-self c =
    let link = c.args.link in
    let served : Served = record { links = c.self.inside.links; out = c.self.inside.out.items } in
    let inside : link < length served.links = omega (arith, c.requires.link, ap (λ (s : Served). length s.links) c.self.view_is) in
    let free : get_or served.links link false ≡ true = ap (λ (s : Served). get_or s.links link false) c.self.view_is ∙ c.requires.served in
    let next : record { links = c.clear.new.self; out = c.push_reserved.new.self.items } ≡ record { links = set served.links link false; out = taken_out served.out link } =
    (λ i. record { links = c.clear.ensures i; out = c.push_reserved.ensures.items i }) in (
      subst IsSetInService (sym next) (served_out served c.self.invariant.0 link inside free),
      omega (arith, c.self.invariant.1, c.push_reserved.ensures.capacity),
    )
