-- A store, as contracts see it, and the history that it stands for: steps of proofs.
use Rattle.std.specs.Prelude.{◌⊎◌, ℕ, List, Option, None, IsTrue}
use Rattle.hose_graph.specs.Network.{Network}
use Rattle.hose_graph.specs.declared.entry.Entry.{Entry}
use Rattle.hose_law.specs.History.{book_of, IsSound}
use Rattle.hose_law.specs.steps.History.{IsSoundWith}
use Rattle.hose_law.specs.steps.Tracks.{Tracks}
use Rattle.hose_book.specs.Ledger.{HasBookOf}
use Rattle.hose_disk.specs.declared.disk.Disk.{Ghosts}
use Rattle.hose_journal.specs.steps.Journal.{Account, Stands}
use Rattle.hose_journal.specs.Moments.{Images}
use Rattle.hose_store.specs.Recovery.{digest_of, IsHistoryOf}
use Rattle.hose_store.specs.Store.{IsHistoryWith}
pub use Rattle.hose_store.specs.Store.{KeptStore}

-- what was told of the journal: these entries, and the one in doubt
abbrev pub account_of : Network → List Entry → Option Entry → Account
account_of network history doubt =
    record { digest = digest_of network; entries = history; doubt = doubt }

-- The image stands for the history, or for it and one entry more: the one in doubt, or the one that
-- is written.
abbrev pub IsAmid : Network → List Entry → Option Entry → Option Entry → List ℕ → Type 0
IsAmid network history doubt writing image = IsHistoryOf network history image
    ⊎ (IsHistoryWith network history doubt image ⊎ IsHistoryWith network history writing image)

-- The book is that of this history, which it tracks and which is sound, and so is the entry in
-- doubt. The journal is sealed. What a stop may leave now stands for the history, with the one in
-- doubt or without it.
pub record HasHistory {D : Type 0} (disk : Ghosts D) (store : KeptStore D) (history : List Entry)
    (doubt : Option Entry) : Type 0 where
  pub book : HasBookOf 0 history store.ledger
  pub tracks : Tracks 0 history store.ledger.recent
  pub sound : IsSound store.ledger.network 0 history
  pub sound_doubt : IsSoundWith store.ledger.network (book_of 0 history) doubt
  pub journal : Stands disk store.journal (account_of store.ledger.network history doubt)
  pub sealed : IsTrue store.journal.sealed
  pub images : Images disk store.journal.disk (IsAmid store.ledger.network history doubt None)
