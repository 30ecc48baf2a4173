-- What comes of an entry that is sound: it is entered, or what keeps the book elsewhere failed.
use Rattle.std.specs.Prelude.{◌≡◌, List, [], ◌∷◌, ◌++◌, ⊤}
use Rattle.hose_io.specs.Frame.{Frame, Rose, Stays}
use Rattle.hose_graph.specs.declared.entry.Entry.{Entry}
use Rattle.hose_book.specs.Ledger.{Ledger}
use Rattle.hose_book.specs.steps.Ledger.{TracksOn, next_ledger}
use Rattle.hose_book.specs.declared.books.Committed.{Committed}
use Rattle.hose_book.specs.declared.books.Committed.TheVariants.{Done, Disk}

-- the ledger is the next one, or as before
abbrev pub Commits : Ledger → Entry → Committed → Ledger → Type 0
Commits old entry Done new = new ≡ next_ledger old entry
Commits old entry Disk new = new ≡ old

-- what tracks a history before a commit tracks it with the entry after it, once it is entered
abbrev pub KeepsTracks : Ledger → Entry → Committed → Ledger → Type 0
KeepsTracks old entry Done new = TracksOn old entry new
KeepsTracks old entry Disk new = ⊤

-- a failure raised the count, and a success left it
abbrev pub IsMet : Frame → Committed → Frame → Type 0
IsMet before Done after = after ≡ before
IsMet before Disk after = Stays before after × Rose before after

-- the frame of what never fails
abbrev pub unfailing : Frame
unfailing = record { faults = 0; number = 0; loan = [] }

-- the history after a commit of an entry
abbrev pub history_after : List Entry → Entry → Committed → List Entry
history_after history entry Done = history ++ entry ∷ []
history_after history entry Disk = history
