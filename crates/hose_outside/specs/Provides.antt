-- What a history of a network provides.
use Rattle.std.specs.Prelude.{ℕ, ◌≤◌, List, length, take}
use Rattle.hose_graph.specs.declared.entry.Entry.{Entry}
use Rattle.hose_graph.specs.Network.{Network}
use Rattle.hose_law.specs.Book.{IsOversold}
use Rattle.hose_law.specs.Cheapest.{AreCheapest}
use Rattle.hose_law.specs.History.{book_of}
use Rattle.hose_law.specs.Live.{AreLiveUnreleased, StaysLive}

-- What a history of a network provides, which began with another one. At each place of it no link
-- is oversold, and exactly those VPNs are live that were admitted before it and not released since,
-- each as it was admitted. What each admission after the beginning reserves carries every matrix
-- within the rates of its hose, and no tree over the links allowed at the book before it carries
-- them at less cost.
pub record Provides (network : Network) (since history : List Entry) : Type 0 where
  pub none_oversold : (place l : ℕ) → ¬ IsOversold network (book_of 0 (take place history)) l
  pub held : (place : ℕ) → place ≤ length history → AreLiveUnreleased 0 history place
  pub kept : (place : ℕ) → StaysLive 0 history place
  pub cheapest : AreCheapest network 0 (length since) history
