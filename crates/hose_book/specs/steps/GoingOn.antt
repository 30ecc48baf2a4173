-- Entries that are committed one after another.
use Rattle.std.specs.Prelude.{List}
use Rattle.hose_graph.specs.Network.{Network}
use Rattle.hose_graph.specs.declared.entry.Entry.{Entry}
use Rattle.hose_law.specs.History.{EntryKind, book_of}
use Rattle.hose_book.specs.steps.Commit.{history_after}
use Rattle.hose_book.specs.declared.books.Books.{Ghosts}
use Rattle.hose_book.specs.declared.books.Committed.{Committed}

-- Entries were committed to books of a history, each of this kind at the history before it: these
-- are the history and the books that they lead to. A commit that failed leaves the history.
pub data GoesOn {K R : Type 0} (books : Ghosts K R) (Kind : EntryKind) (network : Network)
    (since : List Entry) (first : K) : List Entry → K → Type 0 where
  none_yet : GoesOn books Kind network since first since first
  entry_more : {history : List Entry} {middle now : K} (entry : Entry) (result : Committed)
      → GoesOn books Kind network since first history middle
      → Kind network (book_of 0 history) entry → books.went middle entry result now
      → GoesOn books Kind network since first (history_after history entry result) now
