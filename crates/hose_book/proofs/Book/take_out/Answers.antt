use Rattle.std.proofs.Common.{◌∙◌, ◌+◌, Bool, List, false, get_or, length, not, set, sym, ap, subst, arith}
use Rattle.hose_graph.specs.declared.entry.Entry.TheVariants.{Down}
use Rattle.hose_law.specs.Book.{Book}
use Rattle.hose_law.specs.History.{IsSoundAt}
use Rattle.hose_law.specs.Service.{links_in_service}
use Rattle.hose_law.proofs.Serving.{length-links_in_service, links_in_service-at, one_out}
use Rattle.hose_book.specs.Ledger.{Ledger}
use Rattle.hose_book.specs.steps.Serving.{Served}
use Rattle.hose_book.proofs.Operated.{operated}
use Rattle.hose_book.proofs.Book.take_out.Goals as goal

pub take_out-requires-clause-link : goal.take_out-requires-clause-link
take_out-requires-clause-link c =
    let places = ap length c.self.invariant.7 ∙ length-links_in_service c.self.inside.topology c.self.inside.served.out in
    omega (arith, c.requires.1.0, places, ap (λ (s : Ledger). length s.network.links) c.self.view_is)

pub take_out-requires-clause-served : goal.take_out-requires-clause-served
take_out-requires-clause-served c =
    let network = c.self.inside.topology in
    let link = c.args.link in
    let book : Book = record { epoch = c.self.inside.epoch; live = c.self.inside.live; out = c.self.inside.served.out } in
    let sound : IsSoundAt network book (Down link) = subst (λ (s : Ledger). IsSoundAt s.network s.book (Down link)) (sym c.self.view_is) c.requires in
    ap (λ (links : List Bool). get_or links link false) c.self.invariant.7 ∙ links_in_service-at network book.out link false sound.1.0 ∙ ap not sound.1.1

pub invariant_of-self : goal.invariant_of-self
invariant_of-self c =
    let network = c.self.inside.topology in
    let book : Book = record { epoch = c.self.inside.epoch; live = c.self.inside.live; out = c.self.inside.served.out } in
    let sound : IsSoundAt network book (Down c.args.link) = subst (λ (s : Ledger). IsSoundAt s.network s.book (Down c.args.link)) (sym c.self.view_is) c.requires in
    let was = c.self.invariant in
    operated network c.self.inside.loads.items book c.take_out.new.self c.self.inside.recent c.add_link.new.self c.args.link (Down c.args.link)
    (ap (λ (s : Served). record { epoch = book.epoch + 1; live = book.live; out = s.out }) (sym c.take_out.ensures)) c.add_link.ensures was.0 was.1 sound.0 was.3 was.4 was.5 was.6
    (ap (λ (s : Served). s.links) c.take_out.ensures ∙ ap (λ (links : List Bool). set links c.args.link false) was.7
    ∙ sym (one_out network book c.args.link sound.1.0) ∙ ap (λ (s : Served). links_in_service network s.out) (sym c.take_out.ensures))
