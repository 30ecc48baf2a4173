use Rattle.std.proofs.Common.{◌≡◌, ◌∙◌, [], Some, ap, length, refl, subst, sym}
use Rattle.hose_graph.specs.steps.Naming.{NamesPlaces}
use Rattle.hose_graph.specs.Network.{Network}
use Rattle.hose_graph.specs.declared.command.Command.TheVariants.{Admit}
use Rattle.hose_law.specs.History.{book_of}
use Rattle.hose_law.specs.Quotes.{HeldQuote, none_held}
use Rattle.hose_law.specs.steps.Tracks.{Tracks}
use Rattle.hose_core.specs.steps.Bound.{admission_command}
use Rattle.hose_core.specs.steps.Holding.{IsMadeAt}
use Rattle.hose_core.specs.steps.Planning.{AdmitsAtOnce}
use Rattle.hose_store.specs.steps.Commit.{store_books}
use Rattle.hose_turn.specs.steps.Held.{holder}
use Rattle.hose_shared.proofs.Bound.{claimed_turn, idle_more, idle_turn, memory_step}
use Rattle.hose_shared.proofs.Entries.{quote_in_turn, quote_there, stays_along}
use Rattle.hose_shared.proofs.Passes.{along_of, more_on, more_same}
use Rattle.hose_shared.proofs.Recently.{grounds_since}
use Rattle.hose_shared.proofs.shared.Shared.take_planned.Goals as goal

pub returns-in_default : goal.returns-in_default
returns-in_default g c = record {
  steps = λ held. stays_along held (more_same c.args.pass c.requires.of.places) refl (memory_step c.args.self.now.network c.args.pass.seen c.args.caller.now.customer.now c.args.known c.args.quote.hose held);
  names = tt;
}

pub admit_claimed_now-settled-requires-clause-made : goal.admit_claimed_now-settled-requires-clause-made
admit_claimed_now-settled-requires-clause-made g c =
    let same = ap (λ (k : _). k.store.ledger.network) (c.value_mut.ensures.value ∙ sym c.begin_turn-held.ensures.value) in
    let book = book_of 0 c.args.pass.seen in
    (book, subst (λ (n : Network). IsMadeAt n book c.args.quote) (sym (same ∙ c.begin_turn-held.ensures.network)) c.requires.planned)

pub admit_claimed_now-settled-requires-clause-since : goal.admit_claimed_now-settled-requires-clause-since
admit_claimed_now-settled-requires-clause-since g c =
    let same = ap (λ (k : _). k.store) (c.value_mut.ensures.value ∙ sym c.begin_turn-held.ensures.value) in
    let known = holder c.begin_turn-held.result.0 in
    let begun = c.begin_turn-held.ensures in
    let stood = begun.begins.stands in
    let quote = c.args.quote in
    let pass = c.args.pass in
    let tracks = subst (λ (s : _). Tracks 0 known.seen s.ledger.recent) (sym same) stood.tracks in
    let one : HeldQuote = record { hose = quote.hose; place = length pass.seen } in
    let of = quote_there c.args.self.now.network pass.seen c.args.caller.now.customer.now [] quote.hose quote (record { of = refl; made = c.requires.planned }) in
    grounds_since c.value_mut.result.now.store.ledger known.seen one quote (ap (λ (s : _). s.ledger.book) same ∙ stood.book) tracks (quote_in_turn same begun.network begun.more of)

pub end_turn-pass-requires-clause-answers : goal.end_turn-pass-requires-clause-answers
end_turn-pass-requires-clause-answers g c =
    let same = ap (λ (k : _). k.store) (c.value_mut.ensures.value ∙ sym c.begin_turn-held.ensures.value) in
    let customer = c.args.caller.now.customer.now in
    let hose = c.args.quote.hose in
    let stays : c.admit_claimed_now-settled.new.books ≡ c.value_mut.result.now.store = rw c.in_default-settled.is at c.admit_claimed_now-settled.ensures.admits in
    (customer, none_held, Admit hose, idle_turn c.begin_turn-held.ensures.begins same customer c.args.known hose stays)

pub returns-in_default-settled : goal.returns-in_default-settled
returns-in_default-settled g c =
    let same = ap (λ (k : _). k.store) (c.value_mut.ensures.value ∙ sym c.begin_turn-held.ensures.value) in
    let begun = c.begin_turn-held.ensures in
    let customer = c.args.caller.now.customer.now in
    let hose = c.args.quote.hose in
    let known = holder c.begin_turn-held.result.0 in
    let new = c.end_turn-pass.result in
    let stays : c.admit_claimed_now-settled.new.books ≡ c.value_mut.result.now.store = rw c.in_default-settled.is at c.admit_claimed_now-settled.ensures.admits in (
      refl,
      more_on c.args.pass known new begun.more (idle_more c.args.self.now.network known.seen customer none_held (Admit hose) known new
          (c.end_turn-pass.ensures customer none_held (Admit hose) (idle_turn begun.begins same customer c.args.known hose stays))),
    )

pub end_turn-pass-requires-2-clause-answers : goal.end_turn-pass-requires-2-clause-answers
end_turn-pass-requires-2-clause-answers g c =
    let same = ap (λ (k : _). k.store) (c.value_mut.ensures.value ∙ sym c.begin_turn-held.ensures.value) in
    let customer = c.args.caller.now.customer.now in
    let known = c.args.known in
    let hose = c.args.quote.hose in
    let reply = c.in-Some.reply in
    let entry = c.in-Ok.claim.entry in
    let admits : AdmitsAtOnce (store_books g.D.Disk) c.value_mut.result.now.store c.admit_claimed_now-settled.new.books customer (record { known = known; hose = hose }) reply (Some entry) = rw c.in-Some.is at c.admit_claimed_now-settled.ensures.admits in
    (customer, none_held, admission_command known hose, claimed_turn c.begin_turn-held.ensures.begins same customer known hose _ entry (ap Some (c.of-entry.ensures)) none_held reply admits)

pub returns : goal.returns
returns g c =
    let same = ap (λ (k : _). k.store) (c.value_mut.ensures.value ∙ sym c.begin_turn-held.ensures.value) in
    let begun = c.begin_turn-held.ensures in
    let network = c.args.self.now.network in
    let customer = c.args.caller.now.customer.now in
    let known = c.args.known in
    let hose = c.args.quote.hose in
    let reply = c.in-Some.reply in
    let entry = c.in-Ok.claim.entry in
    let admits : AdmitsAtOnce (store_books g.D.Disk) c.value_mut.result.now.store c.admit_claimed_now-settled.new.books customer (record { known = known; hose = hose }) reply (Some entry) = rw c.in-Some.is at c.admit_claimed_now-settled.ensures.admits in record {
      steps = λ held. along_of network customer held (admission_command known hose) reply c.args.pass (holder c.begin_turn-held.result.0) c.end_turn-pass-2.result begun.more
          (c.end_turn-pass-2.ensures customer held (admission_command known hose) (claimed_turn begun.begins same customer known hose _ entry (ap Some (c.of-entry.ensures)) held reply admits));
      names = subst (λ (n : Network). NamesPlaces n reply) (ap (λ (s : _). s.ledger.network) same ∙ begun.network) admits.answered.names;
    }
