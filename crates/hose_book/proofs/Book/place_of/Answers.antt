use Rattle.std.proofs.Common.{◌∙◌, List, get_or, refl, sym, ap}
use Rattle.std.proofs.lemmas.Bool.{not-true, not-false}
use Rattle.hose_graph.specs.declared.entry.Vpn.{Vpn}
use Rattle.hose_law.specs.Book.{Book}
use Rattle.hose_book.specs.Ledger.{Ledger}
use Rattle.hose_book.proofs.Ids.{absent, of_another, of_customer}
use Rattle.hose_book.proofs.Book.place_of.Goals as goal

pub returns-in_default-clause-none : goal.returns-in_default-clause-none
returns-in_default-clause-none c =
    let book : Book = record { epoch = c.self.inside.epoch; live = c.self.inside.live; out = c.self.inside.served.out } in
    absent book c.args.self.now c.as_slice-live.result.now c.args.customer.now c.args.id c.as_slice-live.ensures.value (ap (λ (s : Ledger). s.book) c.self.view_is) (c.in_default.ensures.none refl)

pub returns-then-ne-clause-none : goal.returns-then-ne-clause-none
returns-then-ne-clause-none c =
    let book : Book = record { epoch = c.self.inside.epoch; live = c.self.inside.live; out = c.self.inside.served.out } in
    of_another book c.args.self.now c.as_slice-live.result.now c.args.customer.now c.args.id c.as_slice-live.ensures.value (ap (λ (s : Ledger). s.book) c.self.view_is) c.self.invariant.3.rise c.in-Some.place c.in-Some.ensures.found
    c.index-live-place.result (c.index-live-place.is ∙ ap (λ (live : List Vpn). get_or live c.in-Some.place c.index-live-place.result) c.as_slice-live.ensures.value) (not-true _ (sym c.ne.ensures ∙ c.if-ne.true))

pub returns-clause-found : goal.returns-clause-found
returns-clause-found c =
    let book : Book = record { epoch = c.self.inside.epoch; live = c.self.inside.live; out = c.self.inside.served.out } in
    of_customer book c.args.self.now c.as_slice-live.result.now c.args.customer.now c.args.id c.as_slice-live.ensures.value (ap (λ (s : Ledger). s.book) c.self.view_is) c.self.invariant.3.rise c.in-Some.place c.in-Some.ensures.found
    c.index-live-place.result (c.index-live-place.is ∙ ap (λ (live : List Vpn). get_or live c.in-Some.place c.index-live-place.result) c.as_slice-live.ensures.value) (not-false _ (sym c.ne.ensures ∙ c.if-ne.false))
