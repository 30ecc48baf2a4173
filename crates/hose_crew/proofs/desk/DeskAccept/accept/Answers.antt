use Rattle.std.proofs.Common.{◌∙◌, rules}
use Rattle.hose_crew.proofs.Arriving.{goes_on, one_arrived, tells_the_same}
use Rattle.hose_crew.proofs.desk.DeskAccept.accept.Goals as goal

-- the last one was accepted, and the door is closed
pub invariant_of-self-then-self-2 : goal.invariant_of-self-then-self-2
invariant_of-self-then-self-2 g c =
    let start = g.N.DoorStart.start in
    let came = rw c.in-Ok-Some.field-0-is at c.in-Ok-Some.ensures.accepted in
    let held = c.self.invariant in
    record {
      connections = held.connections;
      few = search rules;
      total = search rules;
      port = c.close.ensures.port ∙ (c.in-Ok-Some.ensures.port ∙ held.port);
      arrived = tells_the_same start.told _ _ _ c.close.ensures.told (one_arrived start.told _ _ _ _ _ _ held.arrived came.1);
      goes = goes_on start _ _ _ _ _ _ _ (search rules) held.goes (c.close.ensures.frame ∙ c.in-Ok-Some.ensures.met.ok);
    }

pub invariant_of-self-else-self-2 : goal.invariant_of-self-else-self-2
invariant_of-self-else-self-2 g c =
    let start = g.N.DoorStart.start in
    let came = rw c.in-Ok-Some.field-0-is at c.in-Ok-Some.ensures.accepted in
    let held = c.self.invariant in
    record {
      connections = held.connections;
      few = search rules;
      total = search rules;
      port = c.in-Ok-Some.ensures.port ∙ held.port;
      arrived = one_arrived start.told _ _ _ _ _ _ held.arrived came.1;
      goes = goes_on start _ _ _ _ _ _ _ (search rules) held.goes c.in-Ok-Some.ensures.met.ok;
    }
