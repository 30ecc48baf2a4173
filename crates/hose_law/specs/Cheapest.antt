-- Least cost: amounts that carry a hose over a set of links, and none on any tree that cost less.
use Rattle.std.specs.Prelude.{◌≡◌, ℕ, ◌≤◌, Bool, List, take, Some, slice_get}
use Rattle.hose_graph.specs.declared.entry.Entry.{Entry}
use Rattle.hose_graph.specs.declared.entry.Entry.TheVariants.{Admit}
use Rattle.hose_graph.specs.Amounts.{ReservedLink}
use Rattle.hose_graph.specs.Hose.{Endpoint}
use Rattle.hose_graph.specs.Network.{Network}
use Rattle.hose_law.specs.Carries.{Carry, CarryOver, amounts_on}
use Rattle.hose_law.specs.Decision.{IsAllowed}
use Rattle.hose_law.specs.History.{book_of}
use Rattle.hose_law.specs.Plan.{plan_cost}
use Rattle.hose_law.specs.Room.{room_of}
use Rattle.hose_law.specs.Tree.{Growth, IsTree, IsTreeOver}

-- what amounts on a tree cost, of which there is one for each step
abbrev pub amounts_cost : Network → Growth → List ℕ → ℕ
amounts_cost network tree amounts = plan_cost network (amounts_on tree amounts)

-- The pairs are a cheapest way to carry a hose over a set of links: they stand for amounts that
-- carry it on a tree over the set, and no amounts that carry it on any such tree cost less.
pub record IsCheapest (network : Network) (set : List Bool) (hose : List Endpoint)
    (pairs : List ReservedLink) : Type 0 where
  pub carries : CarryOver network set hose pairs
  pub least : (tree : Growth) (amounts : List ℕ) → IsTree network tree → IsTreeOver set tree
      → Carry tree hose amounts → plan_cost network pairs ≤ amounts_cost network tree amounts

-- Each admission of a history from a place on reserves a cheapest way to carry its hose over the
-- links that were allowed at the book before it.
abbrev pub AreCheapest : Network → ℕ → ℕ → List Entry → Type 0
AreCheapest network epoch since history =
    (place : ℕ) (customer : List ℕ) (hose : List Endpoint) (amounts : List ReservedLink)
    → since ≤ place → slice_get history place ≡ Some (Admit customer hose amounts)
    → (set : List Bool)
    × IsAllowed network (room_of network (book_of epoch (take place history))) hose set
    × IsCheapest network set hose amounts
