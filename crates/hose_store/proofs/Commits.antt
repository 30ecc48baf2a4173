-- What the steps of a commit, and of closing, make of a store's history.
use Rattle.std.proofs.Common.{◌≡◌, ◌⊎◌, inl, inr, ◌<◌, List, [], ◌∷◌, ◌++◌, length, Option, Some, None, IsTrue, false, true, refl, sym, ap, ◌∙◌, subst}
use Rattle.hose_graph.specs.declared.entry.Entry.{Entry}
use Rattle.hose_graph.specs.declared.limits.TheConstants.{MOST_EPOCH}
use Rattle.hose_law.specs.Book.{Book}
use Rattle.hose_law.specs.History.{book_of, opening_book, next_book, IsSound, IsSoundAt}
use Rattle.hose_law.specs.steps.History.{IsSoundWith}
use Rattle.hose_law.proofs.Scripts.{book_after_push}
use Rattle.hose_law.specs.steps.Tracks.{Tracks}
use Rattle.hose_book.specs.steps.Ledger.{TracksOn, next_ledger}
use Rattle.hose_book.specs.declared.books.Committed.{Committed}
use Rattle.hose_book.specs.declared.books.Committed.TheVariants.{Done, Disk}
use Rattle.hose_disk.specs.declared.disk.Disk.{Ghosts}
use Rattle.hose_journal.specs.steps.Entries.{IsListOf}
use Rattle.hose_journal.specs.steps.Journal.{Account, Stands, IsReady, with_doubt, account_with, IsListAmid}
use Rattle.hose_journal.specs.Moments.{Images, LeavesOnly, TellsAsBefore}
use Rattle.hose_journal.specs.declared.journal.Journal.{Journal}
use Rattle.hose_journal.specs.declared.prepared.Ready.{Ready}
use Rattle.hose_journal.proofs.Accounts.{stands_amid}
use Rattle.hose_journal.proofs.Runs.{weaker}
use Rattle.hose_store.specs.steps.Commit.{Went, IsLeft}
use Rattle.hose_store.specs.Recovery.{IsHistoryOf}
use Rattle.hose_store.specs.steps.Store.{KeptStore, HasHistory, IsAmid, account_of}
use Rattle.hose_store.proofs.Histories.{few_entries, sound_with, history_of_list, history_amid}

module _ {D : Type 0} (disk : Ghosts D) where
  -- a journal under another book's history
  pub has_history : (store : KeptStore D) (history : List Entry) (doubt : Option Entry) → store.ledger.book ≡ book_of 0 history → Tracks 0 history store.ledger.recent → IsSound store.ledger.network 0 history
      → IsSoundWith store.ledger.network (book_of 0 history) doubt → Stands disk store.journal (account_of store.ledger.network history doubt) → IsTrue store.journal.sealed → HasHistory disk store history doubt
  has_history store history doubt book tracks sound at stands sealed = record {
    book = book;
    tracks = tracks;
    sound = sound;
    sound_doubt = at;
    journal = stands;
    sealed = sealed;
    images = λ image is. history_amid store.ledger.network history doubt None image sound at tt (stands_amid disk store.journal (account_of store.ledger.network history doubt) stands image is);
  }

  -- the entry was added
  has_pushed : (old : KeptStore D) (journal : Journal D) (history : List Entry) (doubt : Option Entry) (entry : Entry) → HasHistory disk old history doubt → IsSoundAt old.ledger.network old.ledger.book entry
      → TracksOn old.ledger entry (next_ledger old.ledger entry) → Stands disk journal (account_of old.ledger.network (history ++ entry ∷ []) None)
      → IsTrue journal.sealed → HasHistory disk (record { ledger = next_ledger old.ledger entry; journal = journal }) (history ++ entry ∷ []) None
  has_pushed old journal history doubt entry has at tracks stands sealed =
      let sound_at = subst (λ (book : Book). IsSoundAt old.ledger.network book entry) has.book at in
      let book = ap (λ (b : Book). next_book b entry) has.book ∙ sym (book_after_push (opening_book 0) history entry) in
      has_history (record { ledger = next_ledger old.ledger entry; journal = journal }) (history ++ entry ∷ []) None book (tracks 0 history has.book has.tracks) (sound_with old.ledger.network history entry has.sound sound_at) tt stands sealed

  -- the history stays, whatever is in doubt
  has_still : (old : KeptStore D) (journal : Journal D) (history : List Entry) (doubt now : Option Entry) → HasHistory disk old history doubt → IsSoundWith old.ledger.network (book_of 0 history) now
      → Stands disk journal (account_of old.ledger.network history now) → IsTrue journal.sealed → HasHistory disk (record { ledger = old.ledger; journal = journal }) history now
  has_still old journal history doubt now has at stands sealed = has_history (record { ledger = old.ledger; journal = journal }) history now has.book has.tracks has.sound at stands sealed

  -- ---- a commit

  module _ (old : KeptStore D) (journal : Journal D) (entry : Entry) (ready : Ready) (is_ready : IsReady entry ready) (at : IsSoundAt old.ledger.network old.ledger.book entry)
      (moments : (account : Account) (one : Entry) → Stands disk old.journal account → IsReady one ready → length account.entries < MOST_EPOCH → LeavesOnly disk old.journal.disk journal.disk (IsListAmid account (Some one)))
      (tells : TellsAsBefore disk old.journal.disk journal.disk) (opened : (disk.frame journal.disk).opened ≡ (disk.frame old.journal.disk).opened) (sealed : IsTrue journal.sealed) where
    amid : (history : List Entry) (doubt : Option Entry) → HasHistory disk old history doubt → LeavesOnly disk old.journal.disk journal.disk (IsAmid old.ledger.network history doubt (Some entry))
    amid history doubt has =
        let network = old.ledger.network in
        let sound_at = subst (λ (book : Book). IsSoundAt network book entry) has.book at in
        weaker disk old.journal.disk journal.disk (IsListAmid (account_of network history doubt) (Some entry)) (IsAmid network history doubt (Some entry))
        (λ image is. history_amid network history doubt (Some entry) image has.sound has.sound_doubt sound_at is)
        (moments (account_of network history doubt) entry has.journal is_ready (few_entries network old.ledger.book history entry has.book at))

    pub went_done : TracksOn old.ledger entry (next_ledger old.ledger entry) → ((account : Account) (one : Entry) → Stands disk old.journal account → IsReady one ready → length account.entries < MOST_EPOCH → Stands disk journal (account_with account one))
        → (disk.frame journal.disk).has_failed ≡ false → Went disk old entry Done (record { ledger = next_ledger old.ledger entry; journal = journal })
    went_done tracks added told = record {
      commits = refl;
      tracks = tracks;
      any_moment = amid;
      left = λ history doubt has. has_pushed old journal history doubt entry has at tracks
          (added (account_of old.ledger.network history doubt) entry has.journal is_ready (few_entries old.ledger.network old.ledger.book history entry has.book at)) sealed;
      tells = tells;
      opened = opened;
      told = told;
    }

    still : (history : List Entry) (doubt : Option Entry) → HasHistory disk old history doubt
        → Stands disk journal (account_of old.ledger.network history doubt) ⊎ (Stands disk journal (account_of old.ledger.network history None) ⊎ Stands disk journal (account_of old.ledger.network history (Some entry)))
        → IsLeft disk history doubt entry Disk (record { ledger = old.ledger; journal = journal })
    still history doubt has (inl stands) = inl (has_still old journal history doubt doubt has has.sound_doubt stands sealed)
    still history doubt has (inr (inl stands)) = inr (inl (has_still old journal history doubt None has tt stands sealed))
    still history doubt has (inr (inr stands)) =
        inr (inr (has_still old journal history doubt (Some entry) has (subst (λ (book : Book). IsSoundAt old.ledger.network book entry) has.book at) stands sealed))

    pub went_failed : ((account : Account) (one : Entry) → Stands disk old.journal account → IsReady one ready → length account.entries < MOST_EPOCH → Stands disk journal account ⊎ (Stands disk journal (with_doubt account None) ⊎ Stands disk journal (with_doubt account (Some one))))
        → (disk.frame journal.disk).has_failed ≡ true → Went disk old entry Disk (record { ledger = old.ledger; journal = journal })
    went_failed failed told = record {
      commits = refl;
      tracks = tt;
      any_moment = amid;
      left = λ history doubt has. still history doubt has
          (failed (account_of old.ledger.network history doubt) entry has.journal is_ready (few_entries old.ledger.network old.ledger.book history entry has.book at));
      tells = tells;
      opened = opened;
      told = told;
    }

  -- the history that the store has after a commit
  pub left_with : (history : List Entry) (doubt : Option Entry) (entry : Entry) (result : Committed) (new : KeptStore D) → IsLeft disk history doubt entry result new → (now : List Entry) × (other : Option Entry) × HasHistory disk new now other
  left_with history doubt entry Done new has = (history ++ entry ∷ [], None, has)
  left_with history doubt entry Disk new (inl has) = (history, doubt, has)
  left_with history doubt entry Disk new (inr (inl has)) = (history, None, has)
  left_with history doubt entry Disk new (inr (inr has)) = (history, Some entry, has)

  -- ---- closing

  pub closing_amid : (old : KeptStore D) (new : D) → ((account : Account) → Stands disk old.journal account → LeavesOnly disk old.journal.disk new (IsListAmid account None))
      → (history : List Entry) (doubt : Option Entry) → HasHistory disk old history doubt → LeavesOnly disk old.journal.disk new (IsAmid old.ledger.network history doubt None)
  closing_amid old new run history doubt has =
      let network = old.ledger.network in
      weaker disk old.journal.disk new (IsListAmid (account_of network history doubt) None) (IsAmid network history doubt None)
      (λ image is. history_amid network history doubt None image has.sound has.sound_doubt tt is) (run (account_of network history doubt) has.journal)

  pub closing_images : (old : KeptStore D) (new : D) → ((account : Account) → Stands disk old.journal account → Images disk new (IsListOf account.digest account.entries))
      → (history : List Entry) (doubt : Option Entry) → HasHistory disk old history doubt → Images disk new (IsHistoryOf old.ledger.network history)
  closing_images old new settled history doubt has = λ image is. history_of_list old.ledger.network history image has.sound (settled (account_of old.ledger.network history doubt) has.journal image is)
