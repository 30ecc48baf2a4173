-- A book's epoch is how many entries its history has.
use Rattle.std.proofs.Common.{◌≡◌, ◌+◌, List, [], ◌∷◌, length, ap, arith}
use Rattle.hose_graph.specs.declared.entry.Entry.{Entry}
use Rattle.hose_law.specs.Book.{Book}
use Rattle.hose_law.specs.History.{book_after, book_of, next_book, opening_book}
use Rattle.hose_law.proofs.Entries.{next_epoch}

pub epoch_after : (book : Book) (entries : List Entry) → (book_after book entries).epoch ≡ book.epoch + length entries
epoch_after book [] = omega arith
epoch_after book (entry ∷ entries) = omega (arith, epoch_after (next_book book entry) entries, next_epoch book entry)

pub epoch_of : (history : List Entry) → (book_of 0 history).epoch ≡ length history
epoch_of history = omega (arith, epoch_after (opening_book 0) history)

-- so is that of a book which is known to be the one of a history
pub epoch_is : (book : Book) (history : List Entry) → book ≡ book_of 0 history → book.epoch ≡ length history
epoch_is book history is = omega (arith, ap (λ (b : Book). b.epoch) is, epoch_of history)
