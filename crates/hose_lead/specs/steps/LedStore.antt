-- A store with the packets of its last entries, as books and as a history: steps of proofs.
use Rattle.std.specs.Prelude.{◌≡◌, List, Option}
use Rattle.hose_graph.specs.Network.{Network}
use Rattle.hose_graph.specs.declared.entry.Entry.{Entry}
use Rattle.hose_book.specs.steps.Commit.{history_after}
use Rattle.hose_book.specs.declared.books.Books.{Ghosts as BooksGhosts}
use Rattle.hose_book.specs.declared.books.Committed.{Committed}
use Rattle.hose_disk.specs.Disk.{object_frame}
use Rattle.hose_disk.specs.declared.disk.Disk.{Ghosts}
use Rattle.hose_journal.specs.steps.Journal.{IsReady}
use Rattle.hose_store.specs.steps.Commit.{Went}
use Rattle.hose_store.specs.steps.Store.{HasHistory}
use Rattle.hose_lead.specs.LedStore.{LedState}
use Rattle.hose_lead.specs.steps.History.{IsRecentOf}
use Rattle.hose_lead.specs.declared.led_store.LedReady.{LedReady}

-- the store has these entries, of a network, and the packets at hand are the last ones of them
pub record IsLedOf {D : Type 0} (disk : Ghosts D) (led : LedState D) (network : Network)
    (list : List Entry) : Type 0 where
  pub is_network : led.store.ledger.network ≡ network
  pub doubt : Option Entry
  pub has : HasHistory disk led.store list doubt
  pub recent : IsRecentOf network list led.recent

-- An entry was committed to the store, and what it has goes on by it.
pub record LedWent {D : Type 0} (disk : Ghosts D) (old : LedState D) (entry : Entry)
    (result : Committed) (new : LedState D) : Type 0 where
  pub store : Went disk old.store entry result new.store
  pub grows : (network : Network) (list : List Entry) → IsLedOf disk old network list
      → IsLedOf disk new network (history_after list entry result)

-- the spelling of the entry is ready for the disk, and once more for its packet
pub record IsLedReady (ready : LedReady) (entry : Entry) : Type 0 where
  pub store : IsReady entry ready.ready
  pub body : ready.body.items ≡ ready.ready.bytes.items

-- such a store as books
abbrev pub led_books : {D : Type 0} → Ghosts D → BooksGhosts (LedState D) LedReady
led_books disk = record {
  ledger = λ led. led.store.ledger;
  frame = λ led. object_frame (disk.frame led.store.journal.disk);
  fits = IsLedReady;
  went = LedWent disk;
}
