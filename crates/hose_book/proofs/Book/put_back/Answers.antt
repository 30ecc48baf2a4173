use Rattle.std.proofs.Common.{◌∙◌, ◌+◌, Bool, List, true, length, set, sym, ap, subst, arith}
use Rattle.hose_graph.specs.declared.entry.Entry.TheVariants.{Up}
use Rattle.hose_law.specs.Book.{Book}
use Rattle.hose_law.specs.History.{IsSoundAt}
use Rattle.hose_law.specs.Service.{links_in_service}
use Rattle.hose_law.proofs.Serving.{length-links_in_service, one_back}
use Rattle.hose_book.specs.Ledger.{Ledger}
use Rattle.hose_book.specs.steps.Serving.{Served}
use Rattle.hose_book.proofs.Operated.{operated}
use Rattle.hose_book.proofs.Book.put_back.Goals as goal

pub put_back-requires : goal.put_back-requires
put_back-requires c =
    let places = ap length c.self.invariant.7 ∙ length-links_in_service c.self.inside.topology c.self.inside.served.out in
    omega (arith, c.requires.1.0, places, ap (λ (s : Ledger). length s.network.links) c.self.view_is)

pub invariant_of-self : goal.invariant_of-self
invariant_of-self c =
    let network = c.self.inside.topology in
    let book : Book = record { epoch = c.self.inside.epoch; live = c.self.inside.live; out = c.self.inside.served.out } in
    let sound : IsSoundAt network book (Up c.args.link) = subst (λ (s : Ledger). IsSoundAt s.network s.book (Up c.args.link)) (sym c.self.view_is) c.requires in
    let was = c.self.invariant in
    operated network c.self.inside.loads.items book c.put_back.new.self c.self.inside.recent c.add_link.new.self c.args.link (Up c.args.link)
    (ap (λ (s : Served). record { epoch = book.epoch + 1; live = book.live; out = s.out }) (sym c.put_back.ensures)) c.add_link.ensures was.0 was.1 sound.0 was.3 was.4 was.5 was.6
    (ap (λ (s : Served). s.links) c.put_back.ensures ∙ ap (λ (links : List Bool). set links c.args.link true) was.7
    ∙ sym (one_back network book c.args.link sound.1.0) ∙ ap (λ (s : Served). links_in_service network s.out) (sym c.put_back.ensures))
