use Rattle.std.proofs.Common.{◌≡◌, ◌++◌, [], ◌∷◌, append_assoc, rules}
use Rattle.std.proofs.lemmas.List.Elements.{All-rest}
use Rattle.hose_io.specs.steps.DoorState.{IsFresh}
use Rattle.hose_io.proofs.mem_door.MemDoor.new.Goals as goal

pub loop-input-preserved : goal.loop-input-preserved
loop-input-preserved c =
    let pushed : c.push_back.new.self.items ≡ c.loop-input.coming.items ++ c.in-Some.input ∷ [] = search rules in
    record {
      all = rw (pushed, append_assoc, ← c.in-Some.ensures.steps.0) c.loop-input.invariant.all;
      fresh = All-rest IsFresh c.in-Some.input _ _ c.in-Some.ensures.steps.0 c.loop-input.invariant.fresh;
    }
