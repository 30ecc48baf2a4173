-- What a journal's entries that are read one after another make of a book, and what the disk held of them.
use Rattle.std.proofs.Common.{◌≡◌, ◌⊎◌, inl, inr, ℕ, ◌≤◌, List, [], ◌∷◌, ◌++◌, length, Option, None, Some, IfErr, IfSome, OnOk, IsTrue, is_some, refl, sym, ap, ◌∙◌, subst, arith, length-append}
use Rattle.std.specs.Prelude.{Ok, Err, Result}
use Rattle.hose_io.proofs.Frames.{Stays-next}
use Rattle.hose_graph.specs.Network.{Network}
use Rattle.hose_graph.specs.declared.entry.Entry.{Entry}
use Rattle.hose_disk.specs.declared.disk.Disk.{Ghosts}
use Rattle.hose_journal.specs.declared.layout.TheConstants.{DIGEST_BYTES}
use Rattle.hose_journal.specs.declared.prepared.Ready.{Ready}
use Rattle.hose_journal.specs.declared.reading.Reading.{Reading}
use Rattle.hose_journal.specs.Entries.{Item}
use Rattle.hose_journal.specs.steps.Entries.{AreAllowed}
use Rattle.hose_journal.specs.Moments.{KeepsCount, LeavesOnly}
use Rattle.hose_journal.specs.Image.{IsClosed, front_of}
use Rattle.hose_journal.specs.Layout.{chained_version}
use Rattle.hose_journal.specs.Opening.{KeepsDisk}
use Rattle.hose_journal.specs.steps.Opening.{IsOpened, KeepsList, KeepsOrBegins}
use Rattle.hose_journal.specs.steps.Reading.{IsReadUpTo, OnlyRead, Reads}
use Rattle.hose_journal.proofs.OneList.{no_fewer}
use Rattle.hose_store.specs.declared.fault.StoreFault.{StoreFault}
use Rattle.hose_store.specs.declared.replay.Replay.{Replay}
use Rattle.hose_store.specs.Entries.{BeginsWith, HasEntries}
use Rattle.hose_store.specs.Opening.{IsAtOpening}
use Rattle.hose_store.specs.steps.Opening.{HasGiven, IsStopped}
use Rattle.hose_store.specs.Recovery.{IsHistoryOf, IsSoundAfter, digest_of}
use Rattle.hose_store.specs.Replaying.{IsOnlyOpened, KeepsRead}
use Rattle.hose_store.specs.steps.Replaying.{GivesNext, HasReplayed, IsReplaying}
use Rattle.hose_store.proofs.Histories.{sound_items}
use Rattle.hose_store.proofs.Openings.{at_opening, opened_then, read_history, refused_entries}
use Rattle.hose_store.proofs.Readings.{only_next, stopped_later}

-- ---- what the disk held before its opening

-- it began with these entries
begins_before : (was now : Option (List ℕ)) (version : ℕ) (digest : List ℕ) (items : List Item) (entries : List Entry) (P : List ℕ → Type 0) → length digest ≡ DIGEST_BYTES → is_some now ≡ is_some was → KeepsList was now digest
    → ((bytes : List ℕ) → P bytes → BeginsWith digest entries bytes) → IfSome now P → IfSome was (λ bytes. (entries ≡ []) ⊎ BeginsWith digest entries bytes)
begins_before None now version digest items entries P size tells keeps to held = tt
begins_before (Some was) None version digest items entries P size tells keeps to held = absurd cc
begins_before (Some was) (Some now) version digest items entries P size tells (inl same) to held =
    subst (λ (content : Option (List ℕ)). IfSome content (λ bytes. (entries ≡ []) ⊎ BeginsWith digest entries bytes)) same (inr (to now held))
begins_before (Some was) (Some now) version digest items entries P size tells (inr (unbegun, list)) to held = inl (none_of entries begins)
  where
    begins : BeginsWith digest entries now
    begins = to now held

    none_of : (all : List Entry) → BeginsWith digest all now → all ≡ []
    none_of [] begun = refl
    none_of (entry ∷ all) begun =
        let few = no_fewer begun.version digest now begun.rest begun.items [] size begun.are begun.some begun.is list in
        absurd (omega (arith, few, ap length begun.entries_are))

module _ {D : Type 0} (disk : Ghosts D) where
  -- ---- what the disk held of the entries

  begins_with : (reading : Reading D) (digest : List ℕ) (entries : List Entry) (reads : Reads disk reading digest entries) (bytes : List ℕ) → IsReadUpTo reads.version digest reads.items reading.end bytes → BeginsWith digest entries bytes
  begins_with reading digest entries reads bytes upto = record {
    version = reads.version;
    is_version = reads.is_version;
    items = reads.items;
    entries_are = reads.entries_are;
    are = reads.are;
    rest = upto.rest;
    some = omega (arith, reads.within, reads.place, upto.long, ap length upto.is, length-append (front_of reads.version digest reads.items) upto.rest);
    is = upto.is;
  }

  pub has_entries : (was : D) (network : Network) (replay : Replay D) (entries : List Entry) → IsReplaying disk was network replay entries → HasEntries network (disk.content was) entries
  has_entries was network replay entries replaying =
      let given = replaying.given in
      let reads = subst (λ (n : Network). Reads disk replay.reading (digest_of n) entries) replaying.is_network given.reads in
      let sound = subst (λ (n : Network). AreAllowed (IsSoundAfter n) [] entries) replaying.is_network given.sound in
      let digest = digest_of network in
      let told = subst (λ (content : Option (List ℕ)). IfSome content (IsReadUpTo reads.version digest reads.items replay.reading.end)) replaying.only.same reads.told in
      record {
        sound = sound_items network entries sound;
        read = begins_before (disk.content was) (disk.content replaying.opened) reads.version digest reads.items entries (IsReadUpTo reads.version digest reads.items replay.reading.end) reads.size replaying.keeps.tells replaying.list
            (λ bytes upto. begins_with replay.reading digest entries reads bytes upto) told;
      }

  -- ---- a call that reads on

  only_opened : (was now : D) (network : Network) (opened : D) → ((t : ℕ) (image : List ℕ) → t ≤ disk.moment opened → disk.may_leave opened image → disk.left_since opened t image) → LeavesOnly disk was opened (IsOpened disk was (digest_of network))
      → OnlyRead disk opened now → LeavesOnly disk was now (IsAtOpening disk was network)
  only_opened was now network opened counts run only = at_opening disk was now network (opened_then disk was opened now (digest_of network) counts run only)

  pub keeps_later : (was opened now : D) → KeepsDisk disk was opened → OnlyRead disk opened now → KeepsDisk disk was now
  keeps_later was opened now keeps only = record {
    stays = Stays-next keeps.stays only.stays;
    opened = only.opened ∙ keeps.opened;
    tells = ap is_some only.same ∙ keeps.tells;
  }

  module _ (was : D) (network : Network) (old new : Replay D) (entries : List Entry) (replaying : IsReplaying disk was network old entries) (counts : (t : ℕ) (image : List ℕ) → t ≤ disk.moment replaying.opened → disk.may_leave replaying.opened image → disk.left_since replaying.opened t image)
      (untold : (t : ℕ) (image : List ℕ) → disk.content new.reading.disk ≡ None → disk.left_since new.reading.disk t image → ⊥) (same_network : new.book.network ≡ old.book.network) (only : OnlyRead disk old.reading.disk new.reading.disk) where
    all_only : OnlyRead disk replaying.opened new.reading.disk
    all_only = only_next disk replaying.opened old.reading.disk new.reading.disk replaying.only only

    replayed_on : (all : List Entry) → HasGiven disk new.book new.reading all → KeepsCount disk old.reading.disk new.reading.disk → IsReplaying disk was network new all
    replayed_on all given count = record {
      is_network = same_network ∙ replaying.is_network;
      given = given;
      opened = replaying.opened;
      run = replaying.run;
      keeps = replaying.keeps;
      count = count ∙ replaying.count;
      list = replaying.list;
      version = replaying.version;
      only = all_only;
    }

    replayed_all : HasGiven disk new.book new.reading entries → IsTrue new.reading.closed → IfSome (disk.content was) (IsHistoryOf network entries)
    replayed_all given closed =
        let here = same_network ∙ replaying.is_network in
        let list = subst (λ (n : Network). KeepsList (disk.content was) (disk.content replaying.opened) (digest_of n)) (sym here) replaying.list in
        subst (λ (n : Network). IfSome (disk.content was) (IsHistoryOf n entries)) here (read_history disk was replaying.opened new.book new.reading entries given replaying.keeps.tells list all_only.same closed)

    opened_only : IsOnlyOpened disk was new.reading.disk network
    opened_only = record {
      run = only_opened was new.reading.disk network replaying.opened counts replaying.run all_only;
      keeps = keeps_later was replaying.opened new.reading.disk replaying.keeps all_only;
    }

    keeps_read : KeepsRead disk was new.reading.disk network
    keeps_read = at replaying.list replaying.version
      where
        at : KeepsList (disk.content was) (disk.content replaying.opened) (digest_of network) → KeepsOrBegins (disk.content was) (disk.content replaying.opened) (digest_of network) → KeepsRead disk was new.reading.disk network
        at (inl same) version = inl (all_only.same ∙ same)
        at (inr list) (inl same) = inl (all_only.same ∙ same)
        at (inr list) (inr begun) = inr (list.0, subst (λ (content : Option (List ℕ)). IfSome content (IsClosed (front_of chained_version (digest_of network) []))) (sym all_only.same) begun)

    pub replayed : (result : Result (Option Ready) StoreFault) → GivesNext disk new.book new.reading entries result → OnOk result (KeepsCount disk old.reading.disk new.reading.disk) → IfErr result (IsStopped disk old.reading.disk new.reading.disk old.book.network)
        → HasReplayed disk was network new entries result
    replayed (Ok (Some ready)) (entry, is, given) count stopped = (entry, is, replayed_on (entries ++ entry ∷ []) given count)
    replayed (Ok None) (given, closed) count stopped = (replayed_on entries given count, replayed_all given closed, count ∙ replaying.count, opened_only, keeps_read)
    replayed (Err fault) next count stopped = (
      refused_entries disk was replaying.opened new.reading.disk network fault size untold replaying.keeps replaying.list all_only.same
          (opened_then disk was replaying.opened new.reading.disk (digest_of network) counts replaying.run all_only)
          (stopped_later disk replaying.opened old.reading.disk new.reading.disk network fault replaying.only
          (subst (λ (n : Network). IsStopped disk old.reading.disk new.reading.disk n fault) replaying.is_network stopped)),
      opened_only,
      keeps_read,
    )
      where
        size : length (digest_of network) ≡ DIGEST_BYTES
        size = subst (λ (n : Network). length (digest_of n) ≡ DIGEST_BYTES) replaying.is_network replaying.given.reads.size
