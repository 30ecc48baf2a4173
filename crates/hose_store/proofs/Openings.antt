-- What an opening makes of the images of a disk, and of what it holds.
use Rattle.std.proofs.Common.{◌≡◌, inl, inr, ⊎_elim, ℕ, ◌≤◌, List, [], length, false, Option, None, Some, IfSome, IsTrue, is_some, refl, sym, ap, ◌∙◌, subst, arith}
use Rattle.hose_io.proofs.Frames.{Rose-later}
use Rattle.hose_graph.specs.Network.{Network}
use Rattle.hose_graph.specs.declared.entry.Entry.{Entry}
use Rattle.hose_law.specs.History.{IsSound}
use Rattle.hose_book.specs.Ledger.{Ledger}
use Rattle.hose_disk.specs.Disk.{object_frame}
use Rattle.hose_disk.specs.declared.disk.Disk.{Ghosts}
use Rattle.hose_journal.specs.declared.layout.TheConstants.{DIGEST_BYTES}
use Rattle.hose_journal.specs.declared.fault.JournalFault.{JournalFault}
use Rattle.hose_journal.specs.declared.fault.JournalFault.TheVariants as journal
use Rattle.hose_journal.specs.declared.journal.Journal.{Journal}
use Rattle.hose_journal.specs.declared.reading.Reading.{Reading}
use Rattle.hose_journal.specs.steps.Entries.{IsListOf}
use Rattle.hose_journal.specs.Image.{IsOther, IsUnbegun, damaged, listed}
use Rattle.hose_journal.specs.steps.Journal.{Stands}
use Rattle.hose_journal.specs.Moments.{LeavesOnly}
use Rattle.hose_journal.specs.Opening.{KeepsDisk}
use Rattle.hose_journal.specs.steps.Opening.{HasNoHead, IsOpened, KeepsList, IsRefusedJournal as IsRefusedThere}
use Rattle.hose_journal.specs.steps.Reading.{OnlyRead}
use Rattle.hose_journal.proofs.OneList.{one_list}
use Rattle.hose_journal.proofs.OneMeaning.{head_begun}
use Rattle.hose_journal.proofs.Readings.{read_list}
use Rattle.hose_journal.proofs.Runs.{started, joined, weaker, now_too}
use Rattle.hose_store.specs.declared.fault.StoreFault.{StoreFault}
use Rattle.hose_store.specs.declared.fault.StoreFault.TheVariants as store
use Rattle.hose_store.specs.steps.Faults.{store_fault}
use Rattle.hose_store.specs.Opening.{IsAtOpening, IsRefusedStore, IsUnchanged}
use Rattle.hose_store.specs.steps.Opening.{HasGiven, IsOpenedOn, IsStopped}
use Rattle.hose_store.specs.Recovery.{digest_of, IsHistoryOf, IsRecoveredAs}
use Rattle.hose_store.specs.steps.Store.{HasHistory, account_of}
use Rattle.hose_store.proofs.Commits.{has_history}
use Rattle.hose_store.proofs.Histories.{amid_none, history_of_list, sound_items}
use Rattle.hose_store.proofs.Readings.{told_each}
use Rattle.hose_store.proofs.OneMeaning.{recovered_once}

-- ---- what was begun

no_head_begun : (bytes : List ℕ) (at : ℕ) → HasNoHead bytes at → ¬ IsUnbegun bytes
no_head_begun bytes at (inl (headless, zero_at)) (inl short) = omega (arith, headless.long, short)
no_head_begun bytes at (inl (headless, zero_at)) (inr (long, shut)) = omega (arith, headless.long, long)
no_head_begun bytes at (inr (unmarked, one_at)) (inl short) = omega (arith, unmarked.long, short)
no_head_begun bytes at (inr (unmarked, one_at)) (inr (long, shut)) = shut unmarked.begun

pub other_begun : (digest kept bytes : List ℕ) → IsOther digest kept bytes → ¬ IsUnbegun bytes
other_begun digest kept bytes is = head_begun bytes is.version kept is.rest is.size is.some is.is

-- what is damaged is no journal without an entry
pub damaged_not_empty : (top : Network) (bytes : List ℕ) (at : ℕ) → IsRecoveredAs top bytes (damaged at) → ¬ IsListOf (digest_of top) [] bytes
damaged_not_empty top bytes at is list =
    let same : damaged at ≡ listed [] = recovered_once top bytes (damaged at) (listed []) is (history_of_list top [] bytes tt list) in
    absurd cc

none_of : (content : Option (List ℕ)) → is_some content ≡ false → content ≡ None
none_of None untold = refl
none_of (Some bytes) untold = absurd cc

clash : (content : Option (List ℕ)) (bytes : List ℕ) (P : List ℕ → Type 0) → content ≡ Some bytes → IfSome content P → IfSome content (λ found. ¬ P found) → ⊥
clash None bytes P same p not = absurd cc
clash (Some found) bytes P same p not = not p

-- What is read of a disk after its opening was so before it, where it is so of no journal without an entry.
pub kept_from : (was now : Option (List ℕ)) (digest : List ℕ) (P : List ℕ → Type 0) → is_some now ≡ is_some was → KeepsList was now digest → ((bytes : List ℕ) → P bytes → ¬ IsListOf digest [] bytes) → IfSome now P → IfSome was P
kept_from None now digest P tells keeps not p = tt
kept_from (Some was) None digest P tells keeps not p = absurd cc
kept_from (Some was) (Some now) digest P tells (inl same) not p = subst (λ (content : Option (List ℕ)). IfSome content P) same p
kept_from (Some was) (Some now) digest P tells (inr (unbegun, list)) not p = absurd (not now p list)

-- the history that was read is that of the disk before its opening
history_from : (network : Network) (history : List Entry) (was now : Option (List ℕ)) → length (digest_of network) ≡ DIGEST_BYTES → is_some now ≡ is_some was → KeepsList was now (digest_of network)
    → IsSound network 0 history → IfSome now (IsListOf (digest_of network) history) → IfSome was (IsHistoryOf network history)
history_from network history None now size tells keeps sound list = tt
history_from network history (Some was) None size tells keeps sound list = absurd cc
history_from network history (Some was) (Some now) size tells (inl same) sound list =
    subst (λ (content : Option (List ℕ)). IfSome content (IsHistoryOf network history)) same (history_of_list network history now sound list)
history_from network history (Some was) (Some now) size tells (inr (unbegun, empty)) sound list =
    inl (unbegun, one_list (digest_of network) now history [] size list empty)

module _ {D : Type 0} (disk : Ghosts D) where
  -- ---- moments

  -- only reads follow the opening of a journal
  pub opened_then : (old mid new : D) (digest : List ℕ) → ((t : ℕ) (image : List ℕ) → t ≤ disk.moment mid → disk.may_leave mid image → disk.left_since mid t image)
      → LeavesOnly disk old mid (IsOpened disk old digest) → OnlyRead disk mid new → LeavesOnly disk old new (IsOpened disk old digest)
  opened_then old mid new digest counts run only =
      joined disk old mid new (IsOpened disk old digest) run
      (weaker disk mid new (disk.may_leave mid) (IsOpened disk old digest) (now_too disk old mid (IsOpened disk old digest) counts run) only.run)

  unchanged_by : (old new : D) (digest : List ℕ) (content : Option (List ℕ)) → disk.content old ≡ content → ((t : ℕ) (image : List ℕ) → disk.content new ≡ None → disk.left_since new t image → ⊥)
      → is_some (disk.content new) ≡ is_some (disk.content old) → LeavesOnly disk old new (IsOpened disk old digest) → IfSome (disk.content old) (λ bytes. ¬ IsUnbegun bytes) → IsUnchanged disk old new
  unchanged_by old new digest None same untold tells run begun =
      let none = none_of (disk.content new) (tells ∙ ap is_some same) in
      record {
        later = run.later;
        each = λ image left. absurd (untold (disk.moment old) image none left);
        before = λ t image le left. absurd (untold t image none left);
        keeps = run.keeps;
      }
  unchanged_by old new digest (Some bytes) same untold tells run begun =
      weaker disk old new (IsOpened disk old digest) (disk.may_leave old) (λ image. ⊎_elim (λ was. was) (λ empty. absurd (clash (disk.content old) bytes IsUnbegun same empty.0 begun))) run

  -- nothing was changed of a journal that was begun
  unchanged : (old new : D) (digest : List ℕ) → ((t : ℕ) (image : List ℕ) → disk.content new ≡ None → disk.left_since new t image → ⊥)
      → is_some (disk.content new) ≡ is_some (disk.content old) → LeavesOnly disk old new (IsOpened disk old digest) → IfSome (disk.content old) (λ bytes. ¬ IsUnbegun bytes) → IsUnchanged disk old new
  unchanged old new digest untold tells run begun = unchanged_by old new digest (disk.content old) refl untold tells run begun

  -- ---- refusals

  pub wanting : (old : D) → ((image : List ℕ) → disk.left_since old (disk.moment old) image → disk.may_leave old image) → IsUnchanged disk old old
  wanting old only_now = started disk old (disk.may_leave old) only_now (λ image is. is)

  -- the journal was not opened
  refused_head : (old new : D) (top : Network) (fault : JournalFault) → ((image : List ℕ) → disk.left_since old (disk.moment old) image → disk.may_leave old image)
      → ((t : ℕ) (image : List ℕ) → disk.content new ≡ None → disk.left_since new t image → ⊥) → KeepsDisk disk old new
      → LeavesOnly disk old new (IsOpened disk old (digest_of top)) → IsRefusedThere disk old new (digest_of top) fault → IsRefusedStore disk old new top (store_fault fault)
  refused_head old new top journal.Disk only_now untold keeps run refused = refused
  refused_head old new top (journal.Other kept given) only_now untold keeps run refused = (
    unchanged old new (digest_of top) untold keeps.tells run (told_each (disk.content old) _ (λ bytes. ¬ IsUnbegun bytes) (λ bytes is. other_begun (digest_of top) kept bytes is) refused.1),
    refused.0,
    refused.1,
  )
  refused_head old new top (journal.Damaged at) only_now untold keeps run refused = (
    unchanged old new (digest_of top) untold keeps.tells run (told_each (disk.content old) _ (λ bytes. ¬ IsUnbegun bytes) (λ bytes is. no_head_begun bytes at is) refused),
    told_each (disk.content old) (λ bytes. HasNoHead bytes at) (λ bytes. IsRecoveredAs top bytes (damaged at)) (λ bytes. ⊎_elim (λ headless. inl headless) (λ unmarked. inr (inl unmarked))) refused,
  )
  refused_head old new top journal.Memory only_now untold keeps run refused = subst (λ (now : D). IsUnchanged disk old now) (sym refused) (wanting old only_now)

  -- by the digest that the journal was opened for, and as a store tells it
  pub refused_open : (old new : D) (top : Network) (digest : List ℕ) (fault : JournalFault) (told : StoreFault) → digest ≡ digest_of top → told ≡ store_fault fault → ((image : List ℕ) → disk.left_since old (disk.moment old) image → disk.may_leave old image)
      → ((t : ℕ) (image : List ℕ) → disk.content new ≡ None → disk.left_since new t image → ⊥) → KeepsDisk disk old new
      → LeavesOnly disk old new (IsOpened disk old digest) → IsRefusedThere disk old new digest fault → IsRefusedStore disk old new top told
  refused_open old new top digest fault told is is_told only_now untold keeps run refused =
      subst (λ (f : StoreFault). IsRefusedStore disk old new top f) (sym is_told)
      (refused_head old new top fault only_now untold keeps (subst (λ (d : List ℕ). LeavesOnly disk old new (IsOpened disk old d)) is run) (subst (λ (d : List ℕ). IsRefusedThere disk old new d fault) is refused))

  -- its entries were read no further
  pub refused_entries : (old mid new : D) (top : Network) (fault : StoreFault) → length (digest_of top) ≡ DIGEST_BYTES → ((t : ℕ) (image : List ℕ) → disk.content new ≡ None → disk.left_since new t image → ⊥)
      → KeepsDisk disk old mid → KeepsList (disk.content old) (disk.content mid) (digest_of top) → disk.content new ≡ disk.content mid
      → LeavesOnly disk old new (IsOpened disk old (digest_of top)) → IsStopped disk mid new top fault → IsRefusedStore disk old new top fault
  refused_entries old mid new top store.Disk size untold keeps list same run stopped =
      record { rose = Rose-later (object_frame (disk.frame old)) (object_frame (disk.frame mid)) (object_frame (disk.frame new)) keeps.stays stopped.rose; told = stopped.told }
  refused_entries old mid new top (store.Other kept given) size untold keeps list same run stopped = absurd stopped
  refused_entries old mid new top (store.Damaged at) size untold keeps list same run stopped =
      let digest = digest_of top in
      let told = kept_from (disk.content old) (disk.content mid) digest (λ bytes. IsRecoveredAs top bytes (damaged at)) keeps.tells list (λ bytes is. damaged_not_empty top bytes at is) stopped in (
        unchanged old new digest untold (ap is_some same ∙ keeps.tells) run
            (told_each (disk.content old) (λ bytes. IsRecoveredAs top bytes (damaged at)) (λ bytes. ¬ IsUnbegun bytes) (λ bytes is unbegun. damaged_not_empty top bytes at is (inl (unbegun, refl))) told),
        told,
      )
  refused_entries old mid new top store.Memory size untold keeps list same run stopped =
      let digest = digest_of top in
      let told = kept_from (disk.content old) (disk.content mid) digest (λ bytes. ¬ IsListOf digest [] bytes) keeps.tells list (λ bytes not. not) stopped in
      unchanged old new digest untold (ap is_some same ∙ keeps.tells) run
      (told_each (disk.content old) (λ bytes. ¬ IsListOf digest [] bytes) (λ bytes. ¬ IsUnbegun bytes) (λ bytes not unbegun. not (inl (unbegun, refl))) told)

  -- ---- the store that is opened

  -- after the last one, once its journal is sealed
  pub has_recovered : (ledger : Ledger) (reading : Reading D) (journal : Journal D) (entries : List Entry) (given : HasGiven disk ledger reading entries)
      → Stands disk journal (account_of ledger.network entries None) → IsTrue journal.sealed → HasHistory disk (record { ledger = ledger; journal = journal }) entries None
  has_recovered ledger reading journal entries given stands sealed =
      has_history disk (record { ledger = ledger; journal = journal }) entries None given.book given.tracks (sound_items ledger.network entries given.sound) tt stands sealed

  -- the entries that were read are the history for which the disk stood
  pub read_history : (old mid : D) (ledger : Ledger) (reading : Reading D) (entries : List Entry) (given : HasGiven disk ledger reading entries) → is_some (disk.content mid) ≡ is_some (disk.content old)
      → KeepsList (disk.content old) (disk.content mid) (digest_of ledger.network) → disk.content reading.disk ≡ disk.content mid → IsTrue reading.closed → IfSome (disk.content old) (IsHistoryOf ledger.network entries)
  read_history old mid ledger reading entries given tells list same closed =
      let network = ledger.network in
      let reads = given.reads in
      let told = subst (λ (content : Option (List ℕ)). IfSome content (IsListOf (digest_of network) entries)) same (read_list disk reading (digest_of network) entries reads closed) in
      history_from network entries (disk.content old) (disk.content mid) reads.size tells list (sound_items network entries given.sound) told

  pub opened_on : (old : D) (ledger : Ledger) (reading : Reading D) (journal : Journal D) (entries : List Entry) (given : HasGiven disk ledger reading entries) → IfSome (disk.content old) (IsHistoryOf ledger.network entries)
      → Stands disk journal (account_of ledger.network entries None) → IsTrue journal.sealed → IsOpenedOn disk old ledger.network (record { ledger = ledger; journal = journal })
  opened_on old ledger reading journal entries given read stands sealed =
      let has = has_recovered ledger reading journal entries given stands sealed in
      record {
        history = entries;
        network = refl;
        has = has;
        read = read;
        images = λ image is. amid_none ledger.network entries image (has.images image is);
      }

-- ---- images at an opening

unbegun_history : (network : Network) (content : Option (List ℕ)) → IfSome content IsUnbegun → IfSome content (IsHistoryOf network [])
unbegun_history network None unbegun = tt
unbegun_history network (Some bytes) unbegun = inl (unbegun, refl)

-- a journal that was begun in an opening stands for what the disk stood for
pub at_opening : {D : Type 0} (disk : Ghosts D) (old new : D) (network : Network) → LeavesOnly disk old new (IsOpened disk old (digest_of network)) → LeavesOnly disk old new (IsAtOpening disk old network)
at_opening disk old new network run = weaker disk old new (IsOpened disk old (digest_of network)) (IsAtOpening disk old network)
    (λ image is. ⊎_elim (λ was. inl was) (λ begun. inr ([], unbegun_history network (disk.content old) begun.0, history_of_list network [] image tt begun.1)) is) run

-- within the seal each image stands for what the disk stood for
pub sealing_at : {D : Type 0} (disk : Ghosts D) (old mid new : D) (network : Network) (history : List Entry) → IsSound network 0 history → IfSome (disk.content old) (IsHistoryOf network history)
    → LeavesOnly disk old mid (IsAtOpening disk old network) → LeavesOnly disk mid new (IsListOf (digest_of network) history) → LeavesOnly disk old new (IsAtOpening disk old network)
sealing_at disk old mid new network history sound read first second =
    joined disk old mid new (IsAtOpening disk old network) first
    (weaker disk mid new (IsListOf (digest_of network) history) (IsAtOpening disk old network) (λ image list. inr (history, read, history_of_list network history image sound list)) second)

-- from before an opening up to its seal and within it
pub sealing_run : {D : Type 0} (disk : Ghosts D) (old mid from new : D) (top : Network) (digest : List ℕ) (ledger : Ledger) (reading : Reading D) (entries : List Entry) (given : HasGiven disk ledger reading entries) → digest ≡ digest_of top → ledger.network ≡ top
    → ((t : ℕ) (image : List ℕ) → t ≤ disk.moment mid → disk.may_leave mid image → disk.left_since mid t image) → KeepsDisk disk old mid → KeepsList (disk.content old) (disk.content mid) digest → LeavesOnly disk old mid (IsOpened disk old digest)
    → OnlyRead disk mid reading.disk → IsTrue reading.closed → from ≡ reading.disk → LeavesOnly disk from new (IsListOf (digest_of ledger.network) entries) → LeavesOnly disk old new (IsAtOpening disk old top)
sealing_run {D} disk old mid from new top digest ledger reading entries given is is_network counts keeps list run only closed is_from within =
    let network = ledger.network in
    let same = is ∙ ap digest_of (sym is_network) in
    let keeps_list = subst (λ (d : List ℕ). KeepsList (disk.content old) (disk.content mid) d) same list in
    let opened = opened_then disk old mid reading.disk (digest_of network) counts (subst (λ (d : List ℕ). LeavesOnly disk old mid (IsOpened disk old d)) same run) only in
    subst (λ (n : Network). LeavesOnly disk old new (IsAtOpening disk old n)) is_network
    (sealing_at disk old reading.disk new network entries (sound_items network entries given.sound) (read_history disk old mid ledger reading entries given keeps.tells keeps_list only.same closed)
    (at_opening disk old reading.disk network opened) (subst (λ (d : D). LeavesOnly disk d new (IsListOf (digest_of network) entries)) is_from within))
