use Rattle.std.proofs.Common.{◌≡◌, All, length}
use Rattle.hose_crew.specs.steps.Hands.{IsIdle}
use Rattle.hose_crew.proofs.crew.Crew.new.Given as goal

abbrev pub invariant-loop : goal.invariant-loop
invariant-loop g l = All (IsIdle l.fn.connections) l.hands.items × (length l.hands.items ≡ l.counter)
