use Rattle.hosed.proofs.server.tell_served.Goals as goal

pub returns-in-Err : goal.returns-in-Err
returns-in-Err g c = rw c.in-Err.is c.tell_unserved.ensures
