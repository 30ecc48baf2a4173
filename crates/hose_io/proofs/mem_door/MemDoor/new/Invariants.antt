use Rattle.std.proofs.Common.{All, ◌++◌, ◌≡◌}
use Rattle.hose_io.specs.steps.DoorState.{IsFresh}
use Rattle.hose_io.proofs.mem_door.MemDoor.new.Given as goal

abbrev pub invariant-loop-input : goal.invariant-loop-input
invariant-loop-input l = record {
  all : l.coming.items ++ l.input-iterator.rest.items ≡ l.fn.inputs.items;
  fresh : All IsFresh l.input-iterator.rest.items;
}
