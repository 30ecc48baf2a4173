use Rattle.std.proofs.Common.{◌≤◌, ◌∙◌, IsSome, None, arith, refl, subst, sym, [], ◌∷◌, Some, length}
use Rattle.hose_graph.specs.declared.command.Command.TheVariants.{Take}
use Rattle.hose_graph.specs.declared.limits.TheConstants.{MOST_QUOTES}
use Rattle.hose_law.specs.Quotes.{Holding, at_number, with_number}
use Rattle.hose_core.specs.steps.Holding.{AreHeld}
use Rattle.hose_core.proofs.HeldQuotes.{held_on, held_there, held_with, none_alike}
use Rattle.hose_shared.proofs.Entries.{no_quote, stale_later, stays_holding, taken_after}
use Rattle.hose_law.proofs.Epochs.{epoch_of}
use Rattle.hose_shared.proofs.Passes.{along_of, more_same}
use Rattle.hose_law.proofs.Fronts.{prefix_length, prefix_on}
use Rattle.hose_shared.proofs.shared.Shared.take.Goals as goal

pub returns-in_default-clause-steps : goal.returns-in_default-clause-steps
returns-in_default-clause-steps g c = λ held are.
    let number = c.args.quote in
    let new = c.now-at.result.1 in
    let more = c.now-at.ensures.more in
    let none = none_alike _ _ _ _ _ are number c.in_default.ensures.none in
    let at = c.now-at.ensures.epoch ∙ sym (epoch_of new.seen) in
    stays_holding held more refl (no_quote c.args.self.now.network new.seen c.args.caller.now.customer.now held number c.now-at.result.0 at none) (held_on more.same.seen are)

pub returns-in_default-claim_take-clause-steps : goal.returns-in_default-claim_take-clause-steps
returns-in_default-claim_take-clause-steps g c = λ held are.
    let there = held_there _ _ _ _ _ are c.args.quote c.in-Some.held.now c.in-Some.ensures.some in
    let some : IsSome (at_number held c.args.quote) = subst IsSome (sym there.2.1) refl in
    stays_holding held (more_same c.args.pass c.requires.of.places) refl (some, refl, refl, refl) are

pub take_claimed-answered-requires-clause-quote : goal.take_claimed-answered-requires-clause-quote
take_claimed-answered-requires-clause-quote g c =
    let there = held_there c.args.self.now.network 0 c.args.pass.seen c.requires.quotes.0 c.args.quotes.now c.requires.quotes.1 c.args.quote c.in-Some.held.now c.in-Some.ensures.some in
    (there.2.0, there.2.2)

pub clear-requires : goal.clear-requires
clear-requires g c =
    let quotes = c.args.quotes.now in
    let there = held_there c.args.self.now.network 0 c.args.pass.seen c.requires.quotes.0 quotes c.requires.quotes.1 c.args.quote c.in-Some.held.now c.in-Some.ensures.some in
    let most : c.args.quote ≤ MOST_QUOTES = omega (arith, there.1, c.in-Some.ensures.places) in
    record { range = (there.0, most) }

pub returns-clause-steps : goal.returns-clause-steps
returns-clause-steps g c = λ held are.
    let network = c.args.self.now.network in
    let customer = c.args.caller.now.customer.now in
    let number = c.args.quote in
    let quotes = c.args.quotes.now in
    let pass = c.args.pass in
    let answer = c.take_claimed-answered.result.0 in
    let new = c.take_claimed-answered.result.1 in
    let there = held_there network 0 pass.seen held quotes are number c.in-Some.held.now c.in-Some.ensures.some in
    let turn = c.take_claimed-answered.ensures.steps customer held number there.2.0 c.in-Ok.ensures there.2.1 there.2.2 in
    let after = taken_after network turn.known.seen customer held number there.2.0 there.2.1 answer turn.at.entry _ turn.at.after c.take_claimed-answered.ensures.memory turn.at.step in
    let now = held_on (prefix_on pass.seen turn.known.seen new.seen turn.more.same.seen turn.at.same.seen) are in
    let cleared = held_with network 0 new.seen held quotes now number None None there.0 there.1 refl in
    record {
      along = along_of network customer held (Take number) answer pass turn.known new turn.more turn.at;
      holds = subst (λ (h : Holding). AreHeld network 0 new.seen h c.clear.new.self) (sym after)
          (subst (AreHeld network 0 new.seen (with_number held number None)) (sym c.clear.ensures) cleared);
    }

pub returns-clause-stale : goal.returns-clause-stale
returns-clause-stale g c = λ seen now is.
    let network = c.args.self.now.network in
    let customer = c.args.caller.now.customer.now in
    let pass = c.args.pass in
    let new = c.take_claimed-answered.result.1 in
    let there = held_there network 0 pass.seen c.requires.quotes.0 c.args.quotes.now c.requires.quotes.1 c.args.quote c.in-Some.held.now c.in-Some.ensures.some in
    let one = there.2.0 in
    let turn = c.take_claimed-answered.ensures.steps customer (Some one ∷ []) 1 one c.in-Ok.ensures refl there.2.2 in
    let within : one.place ≤ length turn.known.seen = omega (arith, there.2.2.there, prefix_length pass.seen turn.known.seen turn.more.same.seen) in
    let told = stale_later network turn.known.seen customer (Some one ∷ []) 1 one refl within c.take_claimed-answered.result.0 seen now turn.at.entry _ turn.at.after is turn.at.step in
    let last : now ≤ length new.seen = omega (arith, told.1, prefix_length turn.known.seen new.seen turn.at.same.seen) in
    (told.0, last)
