-- The store that a journal is which was read to its end, with its last packets at hand.
use Rattle.std.proofs.Common.{◌≡◌, ℕ, inl, inr, List, None, Option, refl, subst, sym, le_refl}
use Rattle.std.specs.Prelude.{IfSome, ⊤}
use Rattle.hose_graph.specs.Network.{Network}
use Rattle.hose_graph.specs.declared.entry.Entry.{Entry}
use Rattle.hose_law.specs.History.{EntryKind}
use Rattle.hose_disk.specs.declared.cabinet.Cabinet.{Ghosts as CabinetGhosts}
use Rattle.hose_disk.specs.declared.disk.Disk.{Ghosts}
use Rattle.hose_store.specs.Recovery.{IsHistoryOf}
use Rattle.hose_store.specs.steps.Becoming.{IsStoreOf}
use Rattle.hose_store.specs.steps.Opening.{IsOpenedOn}
use Rattle.hose_store.specs.steps.Store.{HasHistory, IsAmid, KeptStore}
use Rattle.hose_store.proofs.Standing.{closed_left, opened_stands, run_stands}
use Rattle.hose_lead.specs.LedStore.{LedState, RecentState}
use Rattle.hose_lead.specs.steps.History.{IsRecentOf}
use Rattle.hose_lead.specs.steps.LedStore.{IsLedOf}
use Rattle.hose_outside.specs.OnDisk.{opening_of}
use Rattle.hose_outside.specs.steps.Journal.{IsJustOpened, IsLawful, OpensJournal}
use Rattle.hose_outside.proofs.Journals.{left_unused}
use Rattle.hosed_host.specs.steps.Reading.{HasReadStore}

module _ {D : Type 0} (disk : Ghosts D) (was : D) (network : Network) where
  -- a store and the packets of its last entries
  pub led_of : (led : LedState D) (store : KeptStore D) (recent : RecentState) (entries : List Entry) → led.store ≡ store → led.recent ≡ recent
      → IsStoreOf disk was network entries store → IfSome (disk.content was) (IsHistoryOf network entries) → IsRecentOf network entries recent → HasReadStore disk was network led
  led_of led store recent entries is_store is_recent is read of =
      let stored = subst (IsStoreOf disk was network entries) (sym is_store) is in
      record {
        entries = entries;
        store = stored;
        read = read;
        is = record { is_network = stored.is_network; doubt = None; has = stored.has; recent = subst (IsRecentOf network entries) (sym is_recent) of };
      }

  in_history : (of : Network) (entries : List Entry) (image : List ℕ) → of ≡ network → IsAmid of entries None None image → IsHistoryOf network entries image
  in_history of entries image same (inl is) = subst (λ (n : Network). IsHistoryOf n entries image) same is
  in_history of entries image same (inr (inl none)) = absurd none
  in_history of entries image same (inr (inr none)) = absurd none

  abbrev opened_on : (led : LedState D) (read : HasReadStore disk was network led) → IsOpenedOn disk was network led.store
  opened_on led read = record {
    history = read.entries;
    network = read.store.is_network;
    has = read.store.has;
    read = read.read;
    images = λ image may. in_history led.store.ledger.network read.entries image read.store.is_network (read.store.has.images image may);
  }

  -- it was just opened
  pub just_opened : (Kind : EntryKind) (lawful : IsLawful disk) (led : LedState D) → HasReadStore disk was network led → (opens : IsJustOpened disk Kind was network led.store) × IsLedOf disk led network opens.opened.history
  just_opened Kind lawful led read =
      let store = led.store in
      let opened = opened_on led read in
      let since = read.entries in
      let begins = opening_of disk network since was in
      let any_moment = read.store.opened.run in
      let stands = opened_stands disk Kind (disk.may_leave was) begins was store opened refl any_moment read.store.opened.keeps.tells refl (lawful.counts_now was) (lawful.untold store.journal.disk) (le_refl _) (lawful.only_now was) in (
        record {
          lawful = lawful;
          opened = opened;
          images = any_moment;
          count = read.store.count;
          stands = stands;
          unused = λ left closing closes. left_unused disk network was left store closing lawful.counts_now opened any_moment closes;
          leaves = λ history last left closing goes closes. closed_left disk Kind (disk.may_leave was) begins ⊤ last left history closing (lawful.counts_now left)
              (run_stands disk Kind (disk.may_leave was) begins since store history last stands goes) closes;
        },
        read.is,
      )

-- no packet is at hand of a journal that was opened as others are
pub opens_led : {C E : Type 0} (cabinet : CabinetGhosts C E) (disk : Ghosts E) (Kind : EntryKind) (name : List ℕ) (old new : C) (network : Network) (led : LedState E) (store : KeptStore E) → led.store ≡ store
    → ((of : Network) (list : List Entry) (doubt : Option Entry) → store.ledger.network ≡ of → HasHistory disk store list doubt → IsLedOf disk led of list)
    → OpensJournal cabinet disk Kind name old new network store → (opens : OpensJournal cabinet disk Kind name old new network led.store) × IsLedOf disk led network opens.opens.opened.history
opens_led cabinet disk Kind name old new network led store same is_of opens =
    let opened = opens.opens.opened in
    subst (λ (kept : KeptStore _). (opens : OpensJournal cabinet disk Kind name old new network kept) × IsLedOf disk led network opens.opens.opened.history) (sym same)
    (opens, is_of network opened.history None opened.network opened.has)
