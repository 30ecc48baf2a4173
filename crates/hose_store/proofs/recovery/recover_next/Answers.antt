use Rattle.std.proofs.Common.{◌∷◌, ◌++◌, [], ap, rules}
use Rattle.hose_book.specs.Ledger.{Ledger}
use Rattle.hose_store.proofs.Readings.{given_forgotten, given_next}
use Rattle.hose_store.proofs.recovery.recover_next.Goals as goal

pub returns-clause-recovering : goal.returns-clause-recovering
returns-clause-recovering g c =
    let entries = c.requires.0 in
    let given = c.requires.1 in
    let read = c.in_ok-entry.ensures.read entries given in
    let has = rw c.in-Some.is at read in
    let next = given_next g.D.Disk c.args.book.now c.apply.new.self c.args.reading.now c.next_sound.new.reading entries c.in-Some.entry given has (search rules) (search rules) (search rules) (search rules) in
    let forgot = c.forget_changes.ensures.ledger in (
      entries ++ c.in-Some.entry ∷ [],
      given_forgotten g.D.Disk c.apply.new.self c.forget_changes.new.self c.next_sound.new.reading (entries ++ c.in-Some.entry ∷ []) next (ap (λ (l : Ledger). l.network) forgot) (ap (λ (l : Ledger). l.book) forgot)
          (c.forget_changes.ensures.tracks 0 (entries ++ c.in-Some.entry ∷ [])),
    )
