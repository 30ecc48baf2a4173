use Rattle.std.proofs.Common.{◌≡◌, ◌≤◌, ◌∙◌, IsSome, Some, arith, length, refl, subst, sym}
use Rattle.hose_law.specs.History.{book_of}
use Rattle.hose_law.specs.Quotes.{free_number}
use Rattle.hose_core.specs.steps.Planning.{IsNotPlanned, IsPlannedFor}
use Rattle.hose_core.proofs.Decided.{unplanned_done}
use Rattle.hose_core.proofs.HeldQuotes.{free_alike, held_on, held_with}
use Rattle.hose_shared.proofs.Bound.{unbound}
use Rattle.hose_shared.proofs.Entries.{stays_holding, told_quote, unplanned_quote}
use Rattle.hose_law.proofs.Epochs.{epoch_of}
use Rattle.hose_shared.proofs.shared.Shared.quote.Goals as goal

pub returns-in_default-clause-steps : goal.returns-in_default-clause-steps
returns-in_default-clause-steps g c = λ customer held are.
    let more = c.now-at.ensures.more in
    let none = free_alike _ _ _ _ _ are ∙ sym c.free.ensures.lowest ∙ c.in_default.is in
    let at = c.now-at.ensures.epoch ∙ sym (epoch_of c.now-at.result.1.seen) in
    stays_holding held more refl ((refl, (at, none, refl)), refl) (held_on more.same.seen are)

pub returns-in-Err-clause-steps : goal.returns-in-Err-clause-steps
returns-in-Err-clause-steps g c = λ customer held are.
    let network = c.args.self.now.network in
    let seen = c.plan-planned.result.1.seen in
    let more = c.plan-planned.ensures.more in
    let free : free_number held ≡ Some c.in-Some.number = free_alike _ _ _ _ _ are ∙ sym c.free.ensures.lowest ∙ c.in-Some.is in
    let none : IsNotPlanned network (book_of 0 seen) c.args.hose c.in-Err.reply =
    unbound network (book_of 0 seen) c.args.caller.now.customer.now c.args.hose c.in-Err.reply (rw c.in-Err.is at c.plan-planned.ensures.planned) in
    let some : IsSome (free_number held) = subst IsSome (sym free) refl in
    stays_holding held more (unplanned_done network (book_of 0 seen) c.args.hose c.in-Err.reply none) (unplanned_quote network seen customer held c.args.hose c.in-Err.reply some none)
    (held_on more.same.seen are)

pub returns-in-Ok-clause-steps : goal.returns-in-Ok-clause-steps
returns-in-Ok-clause-steps g c = λ customer held are.
    let network = c.args.self.now.network in
    let seen = c.plan-planned.result.1.seen in
    let more = c.plan-planned.ensures.more in
    let quotes = c.args.quotes.now in
    let number = c.in-Some.number in
    let range = c.in-Some.ensures.range in
    let free : free_number held ≡ Some number = free_alike _ _ _ _ _ are ∙ sym c.free.ensures.lowest ∙ c.in-Some.is in
    let planned : IsPlannedFor network (book_of 0 seen) c.args.hose c.in-Ok.quote = rw c.in-Ok.is at c.plan-planned.ensures.planned in
    let longer = held_on more.same.seen are in
    let most : number ≤ length quotes = omega (arith, range.1, c.free.ensures.places) in
    let told = told_quote network seen customer held c.args.hose c.in-Ok.quote number quotes c.hold.new.self c.hold.result longer free planned c.hold.ensures
    (λ one of. held_with network 0 seen held quotes longer number (Some one) (Some c.in-Ok.quote) range.0 most (c.in-Ok.quote, refl, of)) in
    stays_holding told.0 more told.3 told.1 told.2
