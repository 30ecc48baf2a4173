-- Histories whose admissions carry the traffic that their customers may send.
use Rattle.std.specs.Prelude.{◌≡◌, ℕ, List, take, Some, slice_get}
use Rattle.hose_graph.specs.declared.entry.Entry.{Entry}
use Rattle.hose_graph.specs.declared.entry.Entry.TheVariants.{Admit}
use Rattle.hose_graph.specs.Amounts.{ReservedLink}
use Rattle.hose_graph.specs.Hose.{Endpoint}
use Rattle.hose_graph.specs.Network.{Network}
use Rattle.hose_law.specs.Carries.{CarryOver}
use Rattle.hose_law.specs.History.{book_of}
use Rattle.hose_law.specs.Room.{room_of}

-- What each admission of a history reserves carries every matrix within the rates of its hose, on a
-- tree over the links that were in service at the book before it.
abbrev pub AreCarried : Network → ℕ → List Entry → Type 0
AreCarried network epoch history =
    (place : ℕ) (customer : List ℕ) (hose : List Endpoint) (amounts : List ReservedLink)
    → slice_get history place ≡ Some (Admit customer hose amounts)
    → CarryOver network (room_of network (book_of epoch (take place history))).links hose amounts
