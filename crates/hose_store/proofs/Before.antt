-- What stands before the damage of a journal.
use Rattle.std.proofs.Common.{◌≡◌, ◌∙◌, inl, inr, ℕ, List, [], Option, Some, IfErr, IfSome, is_some, refl, sym, subst}
use Rattle.std.specs.Prelude.{Ok, Err, Result}
use Rattle.hose_graph.specs.Network.{Network}
use Rattle.hose_graph.specs.declared.entry.Entry.{Entry}
use Rattle.hose_law.specs.History.{IsSoundAt}
use Rattle.hose_book.specs.Ledger.{Ledger}
use Rattle.hose_disk.specs.declared.disk.Disk.{Ghosts}
use Rattle.hose_journal.specs.declared.fault.JournalFault.{JournalFault}
use Rattle.hose_journal.specs.declared.fault.JournalFault.TheVariants as journal
use Rattle.hose_journal.specs.declared.prepared.Ready.{Ready}
use Rattle.hose_journal.specs.declared.reading.Reading.{Reading}
use Rattle.hose_journal.specs.Entries.{TakesAny}
use Rattle.hose_journal.specs.Image.{IsDamaged}
use Rattle.hose_journal.specs.steps.Entries.{IsListOf}
use Rattle.hose_journal.specs.steps.Opening.{HasNoHead, IsRefusedJournal, KeepsList}
use Rattle.hose_journal.specs.steps.Reading.{HasRead, OnlyRead}
use Rattle.hose_journal.proofs.Narrow.{broken_narrowed}
use Rattle.hose_store.specs.declared.fault.StoreFault.{StoreFault}
use Rattle.hose_store.specs.declared.fault.StoreFault.TheVariants as store
use Rattle.hose_store.specs.declared.replay.Replay.{Replay}
use Rattle.hose_store.specs.Entries.{IsDamagedAfter}
use Rattle.hose_store.specs.steps.Before.{AreAllBefore}
use Rattle.hose_store.specs.Recovery.{IsSoundAfter, digest_of}
use Rattle.hose_store.specs.steps.Faults.{store_fault}
use Rattle.hose_store.specs.steps.Opening.{HasGiven}
use Rattle.hose_store.specs.steps.Replaying.{GivesNext, IsReplaying}
use Rattle.hose_store.proofs.Openings.{damaged_not_empty, kept_from}
use Rattle.hose_store.proofs.Readings.{damaged_unsound, only_next, told_each}

-- what is damaged is no journal without an entry
before_not_empty : (network : Network) (entries : List Entry) (at : ℕ) (bytes : List ℕ) → IsDamagedAfter network entries at bytes → ¬ IsListOf (digest_of network) [] bytes
before_not_empty network entries at bytes (inl (none, inl headless)) = damaged_not_empty network bytes 0 (inl (headless, refl))
before_not_empty network entries at bytes (inl (none, inr unmarked)) = damaged_not_empty network bytes 1 (inr (inl (unmarked, refl)))
before_not_empty network entries at bytes (inr broken) = damaged_not_empty network bytes at (inr (inr (entries, broken)))

-- what is read of a disk after its opening was so before it
before_opened : (was now : Option (List ℕ)) (network : Network) (entries : List Entry) (fault : StoreFault) → is_some now ≡ is_some was → KeepsList was now (digest_of network) → AreAllBefore network now entries fault → AreAllBefore network was entries fault
before_opened was now network entries store.Disk tells list before = tt
before_opened was now network entries (store.Other kept given) tells list before = tt
before_opened was now network entries (store.Damaged at) tells list before =
    kept_from was now (digest_of network) (IsDamagedAfter network entries at) tells list (before_not_empty network entries at) before
before_opened was now network entries store.Memory tells list before = tt

module _ {D : Type 0} (disk : Ghosts D) where
  -- a head that is damaged
  head_before : (old new : D) (top : Network) (fault : JournalFault) → IsRefusedJournal disk old new (digest_of top) fault → AreAllBefore top (disk.content old) [] (store_fault fault)
  head_before old new top journal.Disk refused = tt
  head_before old new top (journal.Other kept given) refused = tt
  head_before old new top (journal.Damaged at) refused = told_each (disk.content old) (λ bytes. HasNoHead bytes at) (IsDamagedAfter top [] at) each refused
    where
      each : (bytes : List ℕ) → HasNoHead bytes at → IsDamagedAfter top [] at bytes
      each bytes (inl (headless, place)) = inl (refl, inl headless)
      each bytes (inr (unmarked, place)) = inl (refl, inr unmarked)
  head_before old new top journal.Memory refused = tt

  -- by the digest that the journal was opened for, and as a store tells it
  pub opening_before : (old new : D) (top : Network) (digest : List ℕ) (fault : JournalFault) (told : StoreFault) → digest ≡ digest_of top → told ≡ store_fault fault → IsRefusedJournal disk old new digest fault → AreAllBefore top (disk.content old) [] told
  opening_before old new top digest fault told is is_told refused =
      subst (AreAllBefore top (disk.content old) []) (sym is_told)
      (head_before old new top fault (subst (λ (d : List ℕ). IsRefusedJournal disk old new d fault) is refused))

  -- a fault of the journal
  pub fault_before : (old : Ledger) (before after : Reading D) (entries : List Entry) (given : HasGiven disk old before entries) (fault : JournalFault) → disk.content after.disk ≡ disk.content before.disk
      → HasRead disk before after (digest_of old.network) entries (Err fault) → AreAllBefore old.network (disk.content after.disk) entries (store_fault fault)
  fault_before old before after entries given journal.Disk same has = tt
  fault_before old before after entries given (journal.Other kept other) same has = tt
  fault_before old before after entries given (journal.Damaged at) same has =
      let digest = digest_of old.network in
      subst (λ (content : Option (List ℕ)). IfSome content (IsDamagedAfter old.network entries at)) (sym same)
      (told_each (disk.content before.disk) (IsDamaged TakesAny digest at entries) (IsDamagedAfter old.network entries at) (λ bytes broken. inr (broken_narrowed (IsSoundAfter old.network) digest at entries bytes given.sound broken)) has.1)
  fault_before old before after entries given journal.Memory same has = tt

  -- an entry that is not sound
  pub unsound_before : (old : Ledger) (before after : Reading D) (entries : List Entry) (given : HasGiven disk old before entries) (entry : Entry) (at : ℕ) → HasRead disk before after (digest_of old.network) entries (Ok (Some entry)) → ¬ IsSoundAt old.network old.book entry → at ≡ after.last
      → AreAllBefore old.network (disk.content after.disk) entries (store.Damaged at)
  unsound_before old before after entries given entry at has unsound is_at =
      told_each (disk.content after.disk) (IsDamaged (IsSoundAfter old.network) (digest_of old.network) at entries) (IsDamagedAfter old.network entries at) (λ bytes broken. inr broken) (damaged_unsound disk old before after entries given entry at has unsound is_at)

  -- ---- a call that reads on

  module _ (old : Replay D) (book : Ledger) (reading : Reading D) (same_network : book.network ≡ old.book.network) (only : OnlyRead disk old.reading.disk reading.disk) where
    before_here : (fault : StoreFault) (was : D) (network : Network) (entries : List Entry) → IsReplaying disk was network old entries → AreAllBefore book.network (disk.content reading.disk) entries fault → AreAllBefore network (disk.content was) entries fault
    before_here fault was network entries replaying before =
        let all = only_next disk replaying.opened old.reading.disk reading.disk replaying.only only in
        let here = subst (λ (n : Network). AreAllBefore n (disk.content reading.disk) entries fault) (same_network ∙ replaying.is_network) before in
        before_opened (disk.content was) (disk.content replaying.opened) network entries fault replaying.keeps.tells replaying.list
        (subst (λ (content : Option (List ℕ)). AreAllBefore network content entries fault) all.same here)

    pub all_before : (result : Result (Option Ready) StoreFault) → ((entries : List Entry) → HasGiven disk old.book old.reading entries → GivesNext disk book reading entries result)
        → IfErr result (λ fault. (was : D) → (network : Network) → (entries : List Entry) → IsReplaying disk was network old entries → AreAllBefore network (disk.content was) entries fault)
    all_before (Ok next) gives = tt
    all_before (Err fault) gives = λ was network entries replaying. before_here fault was network entries replaying (gives entries replaying.given)
