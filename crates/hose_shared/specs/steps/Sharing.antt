-- A shared book, as contracts see it, and its passes.
use Rattle.std.specs.Prelude.{◌≡◌, ◌≤◌}
use mathlib.Core.List.{IsPrefix}
use Rattle.hose_graph.specs.Network.{Network}
use Rattle.hose_turn.specs.Known.{Known, TableId}
use Rattle.hose_turn.specs.steps.Known.{HasOwnPlaces}

-- its lock and its network
pub record SharedBook : Type 0 where
  pub turn : TableId
  pub network : Network

-- The pass is one of the shared book. Its own places are some that it has seen, each once, as are
-- those of every pass.
pub record IsPassOf (shared : SharedBook) (pass : Known) : Type 0 where
  pub turn : pass.turn ≡ shared.turn
  pub network : pass.origin.network ≡ shared.network
  pub places : HasOwnPlaces pass

-- The pass is the one that it was, with its share. It has seen what it had seen, and maybe more,
-- and has met no fewer faults. Its own places are some that it has seen, each once.
pub record IsSamePass (old new : Known) : Type 0 where
  pub turn : new.turn ≡ old.turn
  pub origin : new.origin ≡ old.origin
  pub share : new.share ≡ old.share
  pub seen : IsPrefix old.seen new.seen
  pub faults : old.faults ≤ new.faults
  pub places : HasOwnPlaces new

-- it has maybe seen more, and has no more entries of its own and tried no more
pub record HasSeenMore (old new : Known) : Type 0 where
  pub same : IsSamePass old new
  pub own : new.own ≡ old.own
  pub tried : new.tried ≡ old.tried
