use Rattle.std.proofs.Common.{◌≡◌, ◌∙◌, ◌<◌, true, length, not, set, eqb, sym, ap, subst, arith, rules}
use Rattle.std.proofs.lemmas.Fn.{filter_same}
use Rattle.hose_law.specs.Service.{put_back}
use Rattle.hose_book.specs.steps.Serving.{IsSetInService, Served}
use Rattle.hose_book.proofs.Served.{served_back}
use Rattle.hose_book.proofs.served_links.ServedLinks.put_back.Goals as goal

pub returns : goal.returns
returns c =
    let link = c.args.link in
    let out : c.retain.new.self.items ≡ put_back c.self.inside.out.items link =
    filter_same _ (λ o. not (eqb o link)) _ (λ x b f k. search rules) _ _ c.retain.ensures.filtered in
    (λ i. record { links = c.put.ensures i; out = out i })
    ∙ ap (λ (s : Served). record { links = set s.links link true; out = put_back s.out link }) c.self.view_is

pub invariant_of-self : goal.invariant_of-self
invariant_of-self c =
    let link = c.args.link in
    let inside : link < length c.self.inside.links = omega (arith, c.requires, ap (λ (s : Served). length s.links) c.self.view_is) in
    let next = returns c ∙ sym (ap (λ (s : Served). record { links = set s.links link true; out = put_back s.out link }) c.self.view_is) in (
      subst IsSetInService (sym next) (served_back (record { links = c.self.inside.links; out = c.self.inside.out.items }) c.self.invariant.0 link inside),
      omega (arith, c.self.invariant.1, c.retain.ensures.capacity),
    )
