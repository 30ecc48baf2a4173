use Rattle.hosed.proofs.server.give_up.Goals as goal

pub returns-clause-closed : goal.returns-clause-closed
returns-clause-closed g c = (c.close_store-disk.result.0, c.close_store-disk.ensures.closed)
