use Rattle.std.proofs.Common.{List, ℕ, None, inr, option_map, subst}
use Rattle.hose_core.specs.steps.Bound.{HasNewest, TellsNewest}
use Rattle.hose_core.specs.steps.Planning.{AdmitsAtOnce, IsNotPlanned, IsPlannedFor}
use Rattle.hose_core.proofs.Decided.{newest_admits, unplanned_admits}
use Rattle.hose_core.proofs.admitting.admit_with_rows.Goals as goal

pub returns-in-Some : goal.returns-in-Some
returns-in-Some g c =
    let customer = c.args.customer.now in
    let told : TellsNewest (g.K.Books.ledger c.args.books.now).book customer c.args.asked.known c.in-Some.reply = rw c.in-Some.is at c.newest_now.ensures in
    newest_admits g.K.Books c.args.books.now customer c.args.asked.known c.args.asked.hose c.in-Some.reply told None tt

pub returns-in-Err : goal.returns-in-Err
returns-in-Err g c =
    let was = g.K.Books.ledger c.args.books.now in
    let customer = c.args.customer.now in
    let newest : HasNewest was.book customer c.args.asked.known = rw c.in_default.is at c.newest_now.ensures in
    let none : IsNotPlanned was.network was.book c.args.asked.hose c.in-Err.reply = rw c.in-Err.is at c.plan_now.ensures.planned in
    unplanned_admits g.K.Books c.args.books.now customer c.args.asked.known c.args.asked.hose c.in-Err.reply (inr (newest, none))

pub admit_planned-requires-clause-made : goal.admit_planned-requires-clause-made
admit_planned-requires-clause-made g c =
    let was = g.K.Books.ledger c.args.books.now in
    let planned : IsPlannedFor was.network was.book c.args.asked.hose c.in-Ok.quote = rw c.in-Ok.is at c.plan_now.ensures.planned in
    planned.made

pub admit_planned-requires-clause-newest : goal.admit_planned-requires-clause-newest
admit_planned-requires-clause-newest g c = rw c.in_default.is at c.newest_now.ensures

pub returns-in-Ok : goal.returns-in-Ok
returns-in-Ok g c =
    let was = g.K.Books.ledger c.args.books.now in
    let planned : IsPlannedFor was.network was.book c.args.asked.hose c.in-Ok.quote = rw c.in-Ok.is at c.plan_now.ensures.planned in
    subst (λ (hose : List (ℕ × ℕ)). AdmitsAtOnce g.K.Books c.args.books.now c.admit_planned.new.books c.args.customer.now (record { known = c.args.asked.known; hose = hose }) c.admit_planned.result.0 (option_map (λ (entry : _). entry.value) c.admit_planned.result.1)) planned.of c.admit_planned.ensures
