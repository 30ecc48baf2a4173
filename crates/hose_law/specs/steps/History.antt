-- Histories: lists of accepted entries, the books that they lead to, and which of them are sound
-- and decided: steps of proofs.
use Rattle.std.specs.Prelude.{Option, None, Some, ⊤}
use Rattle.hose_graph.specs.declared.entry.Entry.{Entry}
use Rattle.hose_graph.specs.Network.{Network}
use Rattle.hose_law.specs.Book.{Book}
use Rattle.hose_law.specs.History.{IsSoundAt}

-- an entry, if there is one, is sound at a book
abbrev pub IsSoundWith : Network → Book → Option Entry → Type 0
IsSoundWith network book None = ⊤
IsSoundWith network book (Some entry) = IsSoundAt network book entry
