-- What the server decides of a hose at the room that a book leaves, and on which grounds: steps of
-- proofs.
use Rattle.std.specs.Prelude.{ℕ, Bool, List, ◌↔◌}
use Rattle.hose_graph.specs.Amounts.{ReservedLink}
use Rattle.hose_graph.specs.Hose.{Endpoint}
use Rattle.hose_graph.specs.Network.{Network}
use Rattle.hose_law.specs.Book.{Book}
use Rattle.hose_law.specs.Room.{room_of}
use Rattle.hose_law.specs.Decision.{IsPlannedOver, IsRefused}

-- The decisions on a hose at two books are the same: one admits it with a plan over a set just
-- where the other does, and refuses it with a side just where the other does.
pub record HaveEqualDecisions (network : Network) (one other : Book)
    (hose : List Endpoint) : Type 0 where
  pub plans : (set : List Bool) (plan : List ReservedLink)
      → IsPlannedOver network (room_of network one) hose set plan
      ↔ IsPlannedOver network (room_of network other) hose set plan
  pub refusals : (side : List ℕ)
      → IsRefused network (room_of network one) hose side
      ↔ IsRefused network (room_of network other) hose side
