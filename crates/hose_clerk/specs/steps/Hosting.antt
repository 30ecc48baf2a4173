-- All lines that a host answered.
use Rattle.std.specs.Prelude.{Bool, List, length}
use mathlib.Core.List.{IsPrefix}
use Rattle.hose_io.specs.Frame.{Stays}
use Rattle.hose_net.specs.Story.{Exchange}
use Rattle.hose_graph.specs.Network.{Network}
use Rattle.hose_graph.specs.declared.entry.Entry.{Entry}
use Rattle.hose_law.specs.History.{IsDecided}
use Rattle.hose_book.specs.steps.GoingOn.{GoesOn}
use Rattle.hose_book.specs.declared.books.Books.{Ghosts as BooksGhosts}
use Rattle.hose_clerk.specs.HostLines.{HostLine}
use Rattle.hose_clerk.specs.declared.replies.HostReply.{HostReply}
use Rattle.hose_clerk.specs.Hosting.{HostState, host_from, AreHostSteps, IsAskedOf, TellsDisks}

-- Lines were answered from a history on: one after the other they lead to where the host is, whose
-- history goes on from the first one by entries that are decided, that the lines ask for and that
-- were committed to books that were first so. Failures of a disk were told no more often than the
-- count of the books rose.
pub record AreHosted {K R : Type 0} (books : BooksGhosts K R) (network : Network)
    (required : Bool) (since : List Entry) (first last : K)
    (exchanges : List (Exchange HostLine HostReply)) : Type 0 where
  pub state : HostState
  pub steps : AreHostSteps network required exchanges (host_from since) state
  pub decided : IsDecided network 0 (length since) state.history
  pub begins : IsPrefix since state.history
  pub goes_on : GoesOn books (IsAskedOf required since exchanges) network since first state.history
      last
  pub stays : Stays (books.frame first) (books.frame last)
  pub disks : TellsDisks (books.frame first).faults exchanges (books.frame last).faults
