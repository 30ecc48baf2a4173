-- What the entries that were read, and one more, make of a book and of the images of the disk.
use Rattle.std.proofs.Common.{◌≡◌, inr, ℕ, ◌≤◌, List, [], ◌∷◌, ◌++◌, length, Option, None, Some, IfSome, refl, sym, ap, ◌∙◌, subst, arith, length-append}
use Rattle.std.specs.Prelude.{Ok, Err}
use Rattle.hose_io.proofs.Frames.{Stays-none, Stays-next, Rose-later}
use Rattle.hose_graph.specs.Network.{Network}
use Rattle.hose_graph.specs.steps.Ranges.{IsInRanges}
use Rattle.hose_graph.specs.declared.entry.Entry.{Entry}
use Rattle.hose_law.specs.Book.{Book}
use Rattle.hose_law.specs.History.{opening_book, next_book, IsSoundAt}
use Rattle.hose_law.proofs.Scripts.{book_after_push}
use Rattle.hose_law.specs.steps.Tracks.{Tracks}
use Rattle.hose_book.specs.Ledger.{HasBookOf, Ledger}
use Rattle.hose_book.specs.steps.Ledger.{TracksOn, opening_ledger}
use Rattle.hose_disk.specs.Disk.{object_frame}
use Rattle.hose_disk.specs.declared.disk.Disk.{Ghosts}
use Rattle.hose_journal.specs.declared.layout.TheConstants.{DIGEST_BYTES}
use Rattle.hose_journal.specs.declared.fault.JournalFault.{JournalFault}
use Rattle.hose_journal.specs.declared.fault.JournalFault.TheVariants as journal
use Rattle.hose_journal.specs.declared.reading.Reading.{Reading}
use Rattle.hose_codec.proofs.Entries.{in_ranges}
use Rattle.hose_codec.specs.Spelling.{IsEntry}
use Rattle.hose_journal.specs.Entries.{Item, TakesAny, entered, entries_in}
use Rattle.hose_journal.specs.steps.Entries.{AreAllowed, IsListOf}
use Rattle.hose_journal.specs.Image.{AreItems, IsDamaged, damaged, front_of}
use Rattle.hose_journal.specs.Reading.{HasFailed}
use Rattle.hose_journal.specs.steps.Reading.{HasRead, IsFoundAt, IsReadUpTo, OnlyRead, Reads}
use Rattle.hose_journal.proofs.Items.{entries_push}
use Rattle.hose_journal.proofs.Narrow.{broken_narrowed, refused_at}
use Rattle.hose_journal.proofs.OneList.{no_fewer}
use Rattle.hose_journal.proofs.Runs.{started, joined, weaker}
use Rattle.hose_store.specs.declared.fault.StoreFault.{StoreFault}
use Rattle.hose_store.specs.declared.fault.StoreFault.TheVariants as store
use Rattle.hose_store.specs.steps.Faults.{store_fault}
use Rattle.hose_store.specs.steps.Opening.{HasGiven, HasReadOn, IsNotEmpty, IsStopped}
use Rattle.hose_store.specs.Recovery.{digest_of, IsRecoveredAs, IsSoundAfter}
use Rattle.hose_store.proofs.Histories.{taken_more}

-- ---- contents

pub told_each : (content : Option (List ℕ)) (P Q : List ℕ → Type 0) → ((bytes : List ℕ) → P bytes → Q bytes) → IfSome content P → IfSome content Q
told_each None P Q to p = tt
told_each (Some bytes) P Q to p = to bytes p

-- ---- an entry was read

-- an image in which an entry was read is no journal without one
pub read_not_empty : (content : Option (List ℕ)) (digest : List ℕ) (entries : List Entry) (entry : Entry) (place end : ℕ) → length digest ≡ DIGEST_BYTES → IsFoundAt content digest entries entry place end → IfSome content (λ bytes. ¬ IsListOf digest [] bytes)
read_not_empty content digest entries entry place end size found =
    let items = found.before ++ entered entry ∷ [] in
    told_each content (IsReadUpTo found.version digest items end) (λ bytes. ¬ IsListOf digest [] bytes)
    (λ bytes upto list.
    let some : 1 ≤ length upto.rest = omega (arith, found.within, upto.long, ap length upto.is, length-append (front_of found.version digest items) upto.rest) in
    let few = no_fewer found.version digest bytes upto.rest items [] size found.are some upto.is list in
    omega (arith, few, ap length (entries_push found.before entry), length-append (entries_in found.before) (entry ∷ []))) found.told

-- the last of some items is an entry that has a spelling
last_entry : (version : ℕ) (before items : List Item) (entry : Entry) → AreItems TakesAny version before (items ++ entered entry ∷ []) → IsEntry entry
last_entry version before [] entry are = are.0.0
last_entry version before (item ∷ items) entry are = last_entry version (before ++ item ∷ []) items entry are.1

found_ranges : (content : Option (List ℕ)) (digest : List ℕ) (entries : List Entry) (entry : Entry) (place end : ℕ) → IsFoundAt content digest entries entry place end → IsInRanges entry
found_ranges content digest entries entry place end found = in_ranges entry (last_entry found.version [] found.before entry found.are)

module _ {D : Type 0} (disk : Ghosts D) where
  -- ---- the next entry

  pub given_next : (old new : Ledger) (before after : Reading D) (entries : List Entry) (entry : Entry) → HasGiven disk old before entries → HasReadOn disk old after entries (Ok (Some entry)) → IsSoundAt old.network old.book entry
      → new.network ≡ old.network → new.book ≡ next_book old.book entry → TracksOn old entry new → HasGiven disk new after (entries ++ entry ∷ [])
  given_next old new before after entries entry given has at is_network is_book tracks =
      let sound_at = subst (λ (book : Book). IsSoundAt old.network book entry) given.book at in
      record {
        reads = subst (λ (network : Network). Reads disk after (digest_of network) (entries ++ entry ∷ [])) (sym is_network) has.1;
        sound = subst (λ (network : Network). AreAllowed (IsSoundAfter network) [] (entries ++ entry ∷ [])) (sym is_network) (taken_more old.network [] entries entry given.sound sound_at);
        book = is_book ∙ ap (λ (book : Book). next_book book entry) given.book ∙ sym (book_after_push (opening_book 0) entries entry);
        tracks = tracks 0 entries given.book given.tracks;
        fault = has.2;
      }

  -- what is read leads to a book whatever changes it keeps, as long as these track the entries
  pub given_forgotten : (old new : Ledger) (reading : Reading D) (entries : List Entry) → HasGiven disk old reading entries → new.network ≡ old.network → new.book ≡ old.book
      → (HasBookOf 0 entries old → Tracks 0 entries new.recent) → HasGiven disk new reading entries
  given_forgotten old new reading entries given is_network is_book tracks = record {
    reads = subst (λ (network : Network). Reads disk reading (digest_of network) entries) (sym is_network) given.reads;
    sound = subst (λ (network : Network). AreAllowed (IsSoundAfter network) [] entries) (sym is_network) given.sound;
    book = is_book ∙ given.book;
    tracks = tracks given.book;
    fault = given.fault;
  }

  pub given_none : (ledger : Ledger) (before after : Reading D) (entries : List Entry) → HasGiven disk ledger before entries → HasRead disk before after (digest_of ledger.network) entries (Ok None) → after.fault ≡ None → HasGiven disk ledger after entries
  given_none ledger before after entries given has fault = record {
    reads = has.0;
    sound = given.sound;
    book = given.book;
    tracks = given.tracks;
    fault = fault;
  }

  pub given_first : (ledger : Ledger) (top : Network) (reading : Reading D) → ledger ≡ opening_ledger top 0 → Tracks 0 [] ledger.recent → Reads disk reading (digest_of top) [] → reading.fault ≡ None → HasGiven disk ledger reading []
  given_first ledger top reading is tracks reads fault = record {
    reads = subst (λ (network : Network). Reads disk reading (digest_of network) []) (sym (ap (λ (l : Ledger). l.network) is)) reads;
    sound = tt;
    book = ap (λ (l : Ledger). l.book) is;
    tracks = tracks;
    fault = fault;
  }

  -- an entry was read
  pub read_on : (ledger : Ledger) (before after : Reading D) (entries : List Entry) (entry : Entry) → HasGiven disk ledger before entries → HasRead disk before after (digest_of ledger.network) entries (Ok (Some entry)) → after.fault ≡ None
      → HasReadOn disk ledger after entries (Ok (Some entry))
  read_on ledger before after entries entry given has fault = (
    found_ranges _ _ entries entry _ _ has.1,
    has.0,
    fault,
    read_not_empty (disk.content after.disk) (digest_of ledger.network) entries entry _ _ given.reads.size has.1,
  )

  -- a fault of the journal
  pub stopped_by : (old : Ledger) (before after : Reading D) (entries : List Entry) (given : HasGiven disk old before entries) (fault : JournalFault) → disk.content after.disk ≡ disk.content before.disk
      → HasRead disk before after (digest_of old.network) entries (Err fault) → IsStopped disk before.disk after.disk old.network (store_fault fault)
  stopped_by old before after entries given journal.Disk same has = has.0
  stopped_by old before after entries given (journal.Other kept other) same has = has
  stopped_by old before after entries given (journal.Damaged at) same has =
      let digest = digest_of old.network in
      told_each (disk.content before.disk) (IsDamaged TakesAny digest at entries) (λ bytes. IsRecoveredAs old.network bytes (damaged at))
      (λ bytes broken. inr (inr (entries, broken_narrowed (IsSoundAfter old.network) digest at entries bytes given.sound broken))) has.1
  stopped_by old before after entries given journal.Memory same has =
      let next = has.2 in
      subst (IsNotEmpty old.network) same (read_not_empty (disk.content after.disk) (digest_of old.network) entries next.0 after.gate after.end given.reads.size next.1)

  -- an entry that is not sound
  pub damaged_unsound : (old : Ledger) (before after : Reading D) (entries : List Entry) (given : HasGiven disk old before entries) (entry : Entry) (at : ℕ) → HasRead disk before after (digest_of old.network) entries (Ok (Some entry)) → ¬ IsSoundAt old.network old.book entry → at ≡ after.last
      → IfSome (disk.content after.disk) (IsDamaged (IsSoundAfter old.network) (digest_of old.network) at entries)
  damaged_unsound old before after entries given entry at has unsound is_at =
      let network = old.network in
      let digest = digest_of network in
      let found = has.1 in
      let not_sound : ¬ IsSoundAfter network entries entry = λ sound. unsound (subst (λ (book : Book). IsSoundAt network book entry) (sym given.book) sound) in
      told_each (disk.content after.disk) (IsReadUpTo found.version digest (found.before ++ entered entry ∷ []) after.end) (IsDamaged (IsSoundAfter network) digest at entries)
      (λ bytes upto. subst (λ (place : ℕ). IsDamaged (IsSoundAfter network) digest place entries bytes) (sym is_at)
      (refused_at (IsSoundAfter network) digest (disk.content after.disk) entries entry after.last after.end given.reads.size given.sound not_sound found bytes upto)) found.told

  pub stopped_unsound : (old : Ledger) (before after : Reading D) (entries : List Entry) (given : HasGiven disk old before entries) (entry : Entry) (at : ℕ) → disk.content after.disk ≡ disk.content before.disk
      → HasRead disk before after (digest_of old.network) entries (Ok (Some entry)) → ¬ IsSoundAt old.network old.book entry → at ≡ after.last → IsStopped disk before.disk after.disk old.network (store.Damaged at)
  stopped_unsound old before after entries given entry at same has unsound is_at =
      let damage = IsDamaged (IsSoundAfter old.network) (digest_of old.network) at entries in
      subst (λ (content : Option (List ℕ)). IfSome content (λ bytes. IsRecoveredAs old.network bytes (damaged at))) same
      (told_each (disk.content after.disk) damage (λ bytes. IsRecoveredAs old.network bytes (damaged at)) (λ bytes broken. inr (inr (entries, broken))) (damaged_unsound old before after entries given entry at has unsound is_at))

  -- ---- one call after another

  pub only_none : (old : D) → ((image : List ℕ) → disk.left_since old (disk.moment old) image → disk.may_leave old image) → OnlyRead disk old old
  only_none old only_now = record {
    same = refl;
    images = λ image is. is;
    run = started disk old (disk.may_leave old) only_now (λ image is. is);
    stays = Stays-none (object_frame (disk.frame old));
    opened = refl;
  }

  pub only_next : (old mid new : D) → OnlyRead disk old mid → OnlyRead disk mid new → OnlyRead disk old new
  only_next old mid new first second = record {
    same = second.same ∙ first.same;
    images = λ image is. first.images image (second.images image is);
    run = joined disk old mid new (disk.may_leave old) first.run (weaker disk mid new (disk.may_leave mid) (disk.may_leave old) first.images second.run);
    stays = Stays-next first.stays second.stays;
    opened = second.opened ∙ first.opened;
  }

  pub failed_later : (old mid new : D) → OnlyRead disk old mid → HasFailed disk mid new → HasFailed disk old new
  failed_later old mid new first failed = record {
    rose = Rose-later (object_frame (disk.frame old)) (object_frame (disk.frame mid)) (object_frame (disk.frame new)) first.stays failed.rose;
    told = failed.told;
  }

  pub stopped_later : (old mid new : D) (network : Network) (fault : StoreFault) → OnlyRead disk old mid → IsStopped disk mid new network fault → IsStopped disk old new network fault
  stopped_later old mid new network store.Disk first stopped = failed_later old mid new first stopped
  stopped_later old mid new network (store.Other kept given) first stopped = stopped
  stopped_later old mid new network (store.Damaged at) first stopped = subst (λ (content : Option (List ℕ)). IfSome content (λ bytes. IsRecoveredAs network bytes (damaged at))) first.same stopped
  stopped_later old mid new network store.Memory first stopped = subst (IsNotEmpty network) first.same stopped
