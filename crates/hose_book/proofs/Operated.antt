-- A book whose links in service changed by an entry of the operator, with one epoch more.
use Rattle.std.proofs.Common.{◌≡◌, ◌+◌, ◌<◌, ◌≤◌, ℕ, List, [], ◌∷◌, All, sym, subst, arith}
use Rattle.hose_graph.specs.declared.entry.Entry.{Entry}
use Rattle.hose_graph.specs.Network.{Network, IsNetwork}
use Rattle.hose_law.specs.Book.{Book}
use Rattle.hose_law.specs.History.{next_book}
use Rattle.hose_graph.specs.Limits.{most_epoch}
use Rattle.hose_law.specs.steps.Live.{HasRisingIds}
use Rattle.hose_law.specs.Service.{links_in_service}
use Rattle.hose_law.specs.Recent.{Recent}
use Rattle.hose_law.proofs.Entries.{rising_next}
use Rattle.hose_book.specs.steps.Changes.{AreUpTo, with_changes}
use Rattle.hose_book.specs.steps.Ledger.{AreKeptLoads, IsKept}
use Rattle.hose_book.specs.steps.Serving.{Served}
use Rattle.hose_book.proofs.Tracking.{floor_next, with_up_to}

module _ (network : Network) (loads : List ℕ) (book : Book) (served : Served) where
  -- the book after it
  abbrev after_it : Book
  after_it = record { epoch = book.epoch + 1; live = book.live; out = served.out }

  -- what a book keeps holds of it
  pub operated : (recent after : Recent) (link : ℕ) (entry : Entry) → next_book book entry ≡ after_it → after ≡ with_changes recent book.epoch (link ∷ [])
      → IsNetwork network → AreKeptLoads network book loads → book.epoch < most_epoch → HasRisingIds 0 book → All (IsKept network) book.live
      → recent.floor ≤ book.epoch → AreUpTo book.epoch recent.changes → served.links ≡ links_in_service network served.out
      → IsNetwork network × AreKeptLoads network after_it loads × (book.epoch + 1 ≤ most_epoch) × HasRisingIds 0 after_it × All (IsKept network) book.live
      × (after.floor ≤ book.epoch + 1) × AreUpTo (book.epoch + 1) after.changes × (served.links ≡ links_in_service network served.out)
  operated recent after link entry next changed is_network kept left rising all floor up_to links = (
    is_network,
    record { places = kept.places; each = kept.each; none_oversold = kept.none_oversold },
    omega (arith, left),
    subst (HasRisingIds 0) next (rising_next 0 book entry rising),
    all,
    subst (λ (r : Recent). r.floor ≤ book.epoch + 1) (sym changed) (floor_next recent book.epoch (link ∷ []) floor),
    subst (λ (r : Recent). AreUpTo (book.epoch + 1) r.changes) (sym changed) (with_up_to recent book.epoch (link ∷ []) up_to),
    links,
  )
