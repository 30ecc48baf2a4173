use Rattle.std.proofs.Common.{rules}
use Rattle.hose_disk.proofs.Held.{held_stays}
use Rattle.hose_disk.proofs.mem_cabinet.MemCabinet.take_out.Goals as goal

pub returns-in-Ok-clause-others : goal.returns-in-Ok-clause-others
returns-in-Ok-clause-others c other unlike =
    held_stays c.args.name.now other c.args.self.now.shelf c.take_out.new.self unlike (search rules) (search rules)
