use Rattle.std.proofs.Common.{◌≤◌, length, None, sym}
use Rattle.hose_graph.specs.declared.limits.TheConstants.{MOST_EPOCH}
use Rattle.hose_journal.specs.steps.Journal.{Stands}
use Rattle.hose_store.specs.steps.Opening.{HasGiven}
use Rattle.hose_store.specs.Recovery.{digest_of}
use Rattle.hose_store.specs.steps.Store.{account_of}
use Rattle.hose_store.proofs.Histories.{few_in_history, sound_items}
use Rattle.hose_store.proofs.Openings.{has_recovered}
use Rattle.hose_store.proofs.store.Store.from_reading.Goals.{After-finish}
use Rattle.hose_store.proofs.store.Store.from_reading.Goals as goal

-- the journal stands for the entries that were read, which are few enough
stands : (g : _) (c : After-finish g) (entries : _) → HasGiven g.D.Disk c.args.book c.args.reading entries → Stands g.D.Disk c.finish.result (account_of c.args.book.network entries None) × (length entries ≤ MOST_EPOCH)
stands g c entries given =
    (c.finish.ensures.stands (digest_of c.args.book.network) entries given.reads, few_in_history c.args.book.network entries (sound_items c.args.book.network entries given.sound))

pub seal_plain-requires-clause-stands : goal.seal_plain-requires-clause-stands
seal_plain-requires-clause-stands g c =
    let is = stands g (goal.at.seal_plain-requires-clause-stands g c).After-finish c.requires.0 c.requires.1 in
    (account_of c.args.book.network c.requires.0 None, is.0, is.1)

pub seal_plain-requires-clause-sure : goal.seal_plain-requires-clause-sure
seal_plain-requires-clause-sure g c = sym (stands g (goal.at.seal_plain-requires-clause-sure g c).After-finish c.requires.0 c.requires.1).0.doubt

pub invariant_of-result : goal.invariant_of-result
invariant_of-result g c =
    let entries = c.requires.0 in
    let is = stands g (goal.at.invariant_of-result g c).After-finish entries c.requires.1 in (
      entries,
      None,
      has_recovered g.D.Disk c.args.book c.args.reading c.in-Ok.journal entries c.requires.1 (c.in-Ok.ensures.stands (account_of c.args.book.network entries None) is.0 is.1) c.in-Ok.ensures.sealed,
    )

pub returns-in-Ok-clause-has : goal.returns-in-Ok-clause-has
returns-in-Ok-clause-has g c = λ entries given.
    let is = stands g (goal.at.returns-in-Ok-clause-has g c).After-finish entries given in
    has_recovered g.D.Disk c.args.book c.args.reading c.in-Ok.journal entries given (c.in-Ok.ensures.stands (account_of c.args.book.network entries None) is.0 is.1) c.in-Ok.ensures.sealed

pub returns-in-Ok-clause-any_moment : goal.returns-in-Ok-clause-any_moment
returns-in-Ok-clause-any_moment g c = λ entries given.
    let is = stands g (goal.at.returns-in-Ok-clause-any_moment g c).After-finish entries given in
    rw (sym c.finish.ensures.disk) (c.in-Ok.ensures.any_moment (account_of c.args.book.network entries None) is.0 is.1)

pub returns-in-Err-clause-any_moment : goal.returns-in-Err-clause-any_moment
returns-in-Err-clause-any_moment g c = λ entries given.
    let is = stands g (goal.at.returns-in-Err-clause-any_moment g c).After-finish entries given in
    rw (sym c.finish.ensures.disk) (c.in-Err.ensures.any_moment (account_of c.args.book.network entries None) is.0 is.1)
