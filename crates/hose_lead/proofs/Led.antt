-- A commit to a store with the packets of its last entries.
use Rattle.std.proofs.Common.{◌≡◌, ◌∙◌, ◌⊎◌, inl, inr, List, [], ◌∷◌, ◌++◌, None, Some, ap, subst, sym}
use Rattle.hose_graph.specs.Network.{Network}
use Rattle.hose_graph.specs.declared.entry.Entry.{Entry}
use Rattle.hose_law.specs.History.{EntryKind}
use Rattle.hose_book.specs.Ledger.{Ledger}
use Rattle.hose_book.specs.steps.GoingOn.{GoesOn, none_yet, entry_more}
use Rattle.hose_book.specs.declared.books.Committed.TheVariants.{Done, Disk}
use Rattle.hose_disk.specs.declared.disk.Disk.{Ghosts}
use Rattle.hose_store.specs.steps.Commit.{Went, store_books}
use Rattle.hose_store.specs.steps.Store.{HasHistory}
use Rattle.hose_lead.specs.LedStore.{LedState}
use Rattle.hose_lead.specs.steps.History.{IsRecentOf}
use Rattle.hose_lead.specs.steps.LedStore.{IsLedOf, LedWent, led_books}

module _ {D : Type 0} (disk : Ghosts D) (old new : LedState D) (entry : Entry) where
  -- the entry was entered, and its packet taken in
  pub led_done : Went disk old.store entry Done new.store
      → ((network : Network) (list : List Entry) → IsRecentOf network list old.recent → new.store.ledger.network ≡ network → HasHistory disk new.store (list ++ entry ∷ []) None → IsRecentOf network (list ++ entry ∷ []) new.recent)
      → LedWent disk old entry Done new
  led_done went pushed = record {
    store = went;
    grows = λ network list is.
        let has = went.left list is.doubt is.has in
        let same = ap (λ (l : Ledger). l.network) went.commits ∙ is.is_network in
        record { is_network = same; doubt = None; has = has; recent = pushed network list is.recent same has };
  }

  -- the disk failed
  pub led_failed : Went disk old.store entry Disk new.store → new.recent ≡ old.recent → LedWent disk old entry Disk new
  led_failed went still = record {
    store = went;
    grows = λ network list is. stays network list is (went.left list is.doubt is.has);
  }
    where
      stays : (network : Network) (list : List Entry) (is : IsLedOf disk old network list) → HasHistory disk new.store list is.doubt ⊎ (HasHistory disk new.store list None ⊎ HasHistory disk new.store list (Some entry)) → IsLedOf disk new network list
      stays network list is left =
          let same = ap (λ (l : Ledger). l.network) went.commits ∙ is.is_network in
          let recent = subst (IsRecentOf network list) (sym still) is.recent in
          by same recent left
        where
          by : new.store.ledger.network ≡ network → IsRecentOf network list new.recent → HasHistory disk new.store list is.doubt ⊎ (HasHistory disk new.store list None ⊎ HasHistory disk new.store list (Some entry)) → IsLedOf disk new network list
          by same recent (inl has) = record { is_network = same; doubt = is.doubt; has = has; recent = recent }
          by same recent (inr (inl has)) = record { is_network = same; doubt = None; has = has; recent = recent }
          by same recent (inr (inr has)) = record { is_network = same; doubt = Some entry; has = has; recent = recent }

-- a run of commits to such a store is one of commits to the store
pub led_goes_on : {D : Type 0} (disk : Ghosts D) (Kind : EntryKind) (network : Network) (since : List Entry) (first last : LedState D) (history : List Entry) → GoesOn (led_books disk) Kind network since first history last
    → GoesOn (store_books disk) Kind network since first.store history last.store
led_goes_on disk Kind network since first _ _ none_yet = none_yet
led_goes_on disk Kind network since first _ _ (entry_more {history} {middle} {now} entry result before kind went) =
    entry_more entry result (led_goes_on disk Kind network since first middle history before) kind went.store
