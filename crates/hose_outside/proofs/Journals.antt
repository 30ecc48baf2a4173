-- A journal that is opened and closed: its store on a disk, and the disk in a cabinet.
use Rattle.std.proofs.Common.{◌≡◌, ◌⊎◌, inl, inr, ℕ, ◌≤◌, List, Option, Some, None, IfSome, Result, Err, refl, subst, le_refl}
use Rattle.std.specs.Prelude.{⊤}
use Rattle.hose_io.specs.declared.Failed.{Failed}
use Rattle.hose_graph.specs.Network.{Network}
use Rattle.hose_graph.specs.declared.entry.Entry.{Entry}
use Rattle.hose_law.specs.History.{EntryKind}
use Rattle.hose_book.specs.steps.GoingOn.{GoesOn}
use Rattle.hose_disk.specs.declared.cabinet.Cabinet.{Ghosts as CabinetGhosts}
use Rattle.hose_disk.specs.declared.disk.Disk.{Ghosts as DiskGhosts}
use Rattle.hose_journal.specs.Image.{Meaning, listed, damaged, other}
use Rattle.hose_journal.specs.Moments.{LeavesOnly}
use Rattle.hose_journal.proofs.Runs.{joined, weaker}
use Rattle.hose_store.specs.Beginning.{HasLeft}
use Rattle.hose_store.specs.steps.Commit.{Closes, store_books}
use Rattle.hose_store.specs.Opening.{IsAtOpening, IsRefusedStore}
use Rattle.hose_store.specs.steps.Opening.{IsOpenedOn}
use Rattle.hose_store.specs.Recovery.{IsHistoryOf, IsRecoveredAs}
use Rattle.hose_store.specs.steps.Store.{IsAmid, KeptStore}
use Rattle.hose_store.proofs.Standing.{closed_left, opened_stands, run_stands}
use Rattle.hose_store.specs.declared.fault.StoreFault.{StoreFault}
use Rattle.hose_store.specs.declared.fault.StoreFault.TheVariants as store
use Rattle.hose_outside.specs.Fault.{of_store}
use Rattle.hose_outside.specs.Journal.{IsLeftWith}
use Rattle.hose_outside.specs.steps.Journal.{ClosesJournal, IsJustOpened, OpensJournal}
use Rattle.hose_outside.specs.OnDisk.{opening_of}
use Rattle.hose_outside.specs.Unopened.{OpensNoJournal}
use Rattle.hose_outside.specs.steps.Unopened.{IsNotOpened}
use Rattle.hose_outside.specs.declared.fault.Fault.{Fault}
use Rattle.hose_outside.specs.declared.fault.Fault.TheVariants.{Memory, TooLong}
use Rattle.hose_outside.proofs.PutBack.{IsPutBack, counts, opens_none}

-- ---- on a disk

-- with no entry in doubt and none that is written, an image stands for the history alone
pub alone : (network : Network) (history : List Entry) (image : List ℕ) → IsAmid network history None None image → IsHistoryOf network history image
alone network history image (inl is) = is
alone network history image (inr (inl none)) = absurd none
alone network history image (inr (inr none)) = absurd none

-- A store was opened, and closed before anything was added to it: the disk is left with its history.
module _ {E : Type 0} (disk : DiskGhosts E) (network : Network) (old left : E) (store : KeptStore E) (closing : Result ⊤ Failed)
    (counts_now : (d : E) (t : ℕ) (image : List ℕ) → t ≤ disk.moment d → disk.may_leave d image → disk.left_since d t image)
    (opened : IsOpenedOn disk old network store) (opening : LeavesOnly disk old store.journal.disk (IsAtOpening disk old network)) (closes : Closes disk store left closing) where
  amid : LeavesOnly disk store.journal.disk left (IsAmid store.ledger.network opened.history None None)
  amid = closes.any_moment opened.history None opened.has

  stands : (image : List ℕ) → IsAmid store.ledger.network opened.history None None image → IsHistoryOf network opened.history image
  stands image is = subst (λ (n : Network). IsHistoryOf n opened.history image) opened.network (alone store.ledger.network opened.history image is)

  pub left_unused : IsLeftWith disk old network opened.history left
  left_unused = record {
    now = λ image may. stands image (amid.each image (counts_now left (disk.moment store.journal.disk) image amid.later may));
    moments = λ image since. at image (amid.before (disk.moment old) image opening.later since);
  }
    where
      at : (image : List ℕ) → disk.left_since store.journal.disk (disk.moment old) image ⊎ IsAmid store.ledger.network opened.history None None image → IsAtOpening disk old network image
      at image (inl before) = opening.each image before
      at image (inr in_closing) = inr (opened.history, opened.read, stands image in_closing)

-- however a store that was just opened is closed, after commits of entries of whatever kind
pub leaves_for : {E : Type 0} (disk : DiskGhosts E) → ((at : E) (t : ℕ) (image : List ℕ) → t ≤ disk.moment at → disk.may_leave at image → disk.left_since at t image) → ((at : E) (t : ℕ) (image : List ℕ) → disk.content at ≡ None → disk.left_since at t image → ⊥)
    → ((at : E) (image : List ℕ) → disk.left_since at (disk.moment at) image → disk.may_leave at image) → (One Other : EntryKind) (network : Network) (old : E) (store : KeptStore E) (is : IsJustOpened disk One old network store) (history : List Entry) (last : KeptStore E) (left : E) (closing : Result ⊤ Failed)
    → GoesOn (store_books disk) Other network is.opened.history store history last → Closes disk last left closing → HasLeft disk Other (disk.may_leave old) (opening_of disk network is.opened.history old) history left closing
leaves_for disk counts untold only_now One Other network old store is history last left closing goes closes =
    let begins = opening_of disk network is.opened.history old in
    let stands = opened_stands disk Other (disk.may_leave old) begins old store is.opened refl is.images is.stands.tells refl (counts old) (untold store.journal.disk) (le_refl _) (only_now old) in
    closed_left disk Other (disk.may_leave old) begins ⊤ last left history closing (counts left) (run_stands disk Other (disk.may_leave old) begins is.opened.history store history last stands goes) closes

-- what is told of a store that was just opened is told for entries of each kind
pub opened_for : {E : Type 0} (disk : DiskGhosts E) (One Other : EntryKind) (network : Network) (old : E) (store : KeptStore E) → IsJustOpened disk One old network store → IsJustOpened disk Other old network store
opened_for disk One Other network old store is =
    let begins = opening_of disk network is.opened.history old in
    let laws = is.lawful in
    record {
      lawful = laws;
      opened = is.opened;
      images = is.images;
      count = is.count;
      stands = opened_stands disk Other (disk.may_leave old) begins old store is.opened refl is.images is.stands.tells refl (laws.counts_now old) (laws.untold store.journal.disk) (le_refl _) (laws.only_now old);
      unused = is.unused;
      leaves = leaves_for disk laws.counts_now laws.untold laws.only_now One Other network old store is;
    }

-- A store was opened, and closed before anything was asked of it: at each moment an image is one of
-- before, or stands for what the disk stood for.
pub closed_unused : {E : Type 0} (disk : DiskGhosts E) (Kind : EntryKind) (network : Network) (old left : E) (store : KeptStore E) (closing : Result ⊤ Failed) → IsJustOpened disk Kind old network store → Closes disk store left closing → IsNotOpened disk old left network (Err Memory)
closed_unused disk Kind network old left store closing opens closes =
    let opened = opens.opened in
    let history = opened.history in
    let after = closes.any_moment history None opened.has in
    record {
      why = tt;
      images =
          joined disk old store.journal.disk left (IsAtOpening disk old network) opens.images
          (weaker disk store.journal.disk left (IsAmid store.ledger.network history None None) (IsAtOpening disk old network)
          (λ image amid. inr (history, opened.read, subst (λ (n : Network). IsHistoryOf n history image) opened.network (alone store.ledger.network history image amid))) after);
    }

-- what is other or damaged is no list
not_listed : (network : Network) (meaning : Meaning Entry) → ((history : List Entry) → listed history ≡ meaning → ⊥) → ((image : List ℕ) (one two : Meaning Entry) → IsRecoveredAs network image one → IsRecoveredAs network image two → one ≡ two)
    → (content : Option (List ℕ)) → IfSome content (λ bytes. IsRecoveredAs network bytes meaning) → IfSome content (λ bytes. IsRecoveredAs network bytes meaning × ((history : List Entry) → ¬ IsHistoryOf network history bytes))
not_listed network meaning apart one None is = tt
not_listed network meaning apart one (Some bytes) is = (is, λ history stands. apart history (one bytes (listed history) meaning stands is))

module _ {E : Type 0} (disk : DiskGhosts E) (network : Network) (old left : E) where
  -- a store that is refused
  pub not_opened : (why : StoreFault) → ((image : List ℕ) (one two : Meaning Entry) → IsRecoveredAs network image one → IsRecoveredAs network image two → one ≡ two)
      → LeavesOnly disk old left (IsAtOpening disk old network) → IsRefusedStore disk old left network why → IsNotOpened disk old left network (Err (of_store why))
  not_opened store.Disk one run refused = record { why = refused.told; images = run }
  not_opened (store.Other old_one given) one run refused = record {
    why = (refused.1, not_listed network (other old_one) (λ history same. cc same) one (disk.content old) refused.2);
    images = run;
  }
  not_opened (store.Damaged at) one run refused = record { why = not_listed network (damaged at) (λ history same. cc same) one (disk.content old) refused.1; images = run }
  not_opened store.Memory one run refused = record { why = tt; images = run }

-- a fault for which no journal was opened is not that of an input too long
pub not_too_long : {C E : Type 0} (cabinet : CabinetGhosts C E) (disk : DiskGhosts E) (name : List ℕ) (old new : C) (network : Network) (why : Fault) → OpensNoJournal cabinet disk name old new network (Err why) → why ≡ TooLong → ⊥
not_too_long cabinet disk name old new network why not is = subst (λ (fault : Fault). OpensNoJournal cabinet disk name old new network (Err fault)) is not

-- ---- in a cabinet

module _ {C E : Type 0} (cabinet : CabinetGhosts C E) (disk : DiskGhosts E) (name : List ℕ) (old mid new : C) (network : Network) (store : KeptStore E) where
  pub put_back : (Kind : EntryKind) (opens : OpensJournal cabinet disk Kind name old mid network store) (last : KeptStore E) (closing : Result ⊤ Failed) (closes : ClosesJournal cabinet disk mid new last closing) → IsPutBack cabinet disk name old mid new opens.was closes.left
  put_back Kind opens last closing closes = record { out = opens.taken; in_place = closes.back }

  -- the store was closed before anything was asked of it, for want of memory
  pub unused_in : (Kind : EntryKind) (closing : Result ⊤ Failed) → OpensJournal cabinet disk Kind name old mid network store → ClosesJournal cabinet disk mid new store closing → OpensNoJournal cabinet disk name old new network (Err Memory)
  unused_in Kind closing opens closes = opens_none cabinet disk name old mid new network opens.was closes.left (put_back Kind opens store closing closes) (Err Memory)
      (closed_unused disk Kind network opens.was closes.left store closing opens.opens closes.closes)
