-- Each history for which a journal stands is one that a leader may have.
use Rattle.std.proofs.Common.{◌≡◌, ◌∙◌, inl, inr, ℕ, List, [], ◌∷◌, ◌++◌, ap, subst, sym, All}
use Rattle.std.proofs.lemmas.List.Elements.{All-cons, All-nil}
use Rattle.hose_graph.specs.Network.{Network}
use Rattle.hose_graph.specs.declared.entry.Entry.{Entry}
use Rattle.hose_law.specs.Book.{Book}
use Rattle.hose_law.specs.History.{AreFrom, IsSound, IsSoundAt, book_of, next_book, opening_book}
use Rattle.hose_law.proofs.Scripts.{book_after_push}
use Rattle.hose_codec.specs.Spelling.{IsEntry}
use Rattle.hose_journal.specs.Entries.{Item, entered, entries_in, sealed}
use Rattle.hose_journal.specs.Image.{AreItems}
use Rattle.hose_journal.proofs.Items.{entries_push, entries_seal}
use Rattle.hose_store.specs.Recovery.{IsHistoryOf, IsSoundAfter}
use Rattle.hose_follow.specs.Replication.{IsLeader}

module _ (network : Network) where
  book_more : (before : List Item) (entry : Entry) → book_of 0 (entries_in (before ++ entered entry ∷ [])) ≡ next_book (book_of 0 (entries_in before)) entry
  book_more before entry = ap (book_of 0) (entries_push before entry) ∙ book_after_push (opening_book 0) (entries_in before) entry

  are_sound : (version : ℕ) (before items : List Item) → AreItems (IsSoundAfter network) version before items → AreFrom IsSoundAt network (book_of 0 (entries_in before)) 0 (entries_in items)
  are_sound version before [] are = tt
  are_sound version before (entered entry ∷ items) are =
      (are.0.1, subst (λ (book : Book). AreFrom IsSoundAt network book 0 (entries_in items)) (book_more before entry) (are_sound version (before ++ entered entry ∷ []) items are.1))
  are_sound version before (sealed ∷ items) are =
      subst (λ (l : List Entry). AreFrom IsSoundAt network (book_of 0 l) 0 (entries_in items)) (entries_seal before) (are_sound version (before ++ sealed ∷ []) items are.1)

  are_spelled : (version : ℕ) (before items : List Item) → AreItems (IsSoundAfter network) version before items → All IsEntry (entries_in items)
  are_spelled version before [] are = All-nil IsEntry
  are_spelled version before (entered entry ∷ items) are = All-cons IsEntry entry (entries_in items) are.0.0 (are_spelled version (before ++ entered entry ∷ []) items are.1)
  are_spelled version before (sealed ∷ items) are = are_spelled version (before ++ sealed ∷ []) items are.1

  no_entries : IsLeader network []
  no_entries = record { sound = tt; spelled = All-nil IsEntry }

  pub history_leads : (list : List Entry) (image : List ℕ) → IsHistoryOf network list image → IsLeader network list
  history_leads list image (inl unbegun) = subst (IsLeader network) (sym unbegun.1) no_entries
  history_leads list image (inr is) = record {
    sound = subst (λ (l : List Entry). IsSound network 0 l) is.view (are_sound is.version [] is.items is.are);
    spelled = subst (All IsEntry) is.view (are_spelled is.version [] is.items is.are);
  }
