-- What a crew leaves, once it has served the connections of a door: steps of proofs.
use Rattle.std.specs.Prelude.{◌≡◌, ℕ, Result}
use Rattle.hose_io.specs.Frame.{Met}
use Rattle.hose_io.specs.declared.Failed.{Failed}
use Rattle.hose_io.specs.declared.door.Door.{Ghosts as DoorGhosts}
use Rattle.hose_shared.specs.steps.Sharing.{IsSamePass}
use Rattle.hose_turn.specs.Known.{Known}
use Rattle.hose_crew.specs.Crew.{AreServed}

-- how many workers there are, and how many connections they are to serve
pub record CrewState : Type 0 where
  pub workers : ℕ
  pub connections : ℕ

-- A crew served so many connections of a door along a pass, which comes back whole: all that was
-- answered is along what it has seen.
pub record ServesDoor {L In Out Done T : Type 0} (door : DoorGhosts L In Out Done) (was now : L)
    (count : ℕ) (old new : Known) (result : Result T Failed) : Type 0 where
  pub met : Met (door.frame was) (door.frame now) result
  pub port : door.opened_at now ≡ door.opened_at was
  pub same : IsSamePass old new
  pub served : AreServed (door.told was) (door.told now) count new result
