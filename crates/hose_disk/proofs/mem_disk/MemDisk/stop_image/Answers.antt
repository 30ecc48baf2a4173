use Rattle.std.proofs.Common.{rules}
use Rattle.hose_disk.proofs.Picked.{was_at}
use Rattle.hose_disk.proofs.mem_disk.MemDisk.stop_image.Goals as goal

pub returns-clause-left : goal.returns-clause-left
returns-clause-left c = λ t le.
    was_at c.args.self.now.made.first c.args.self.now.made.calls c.args.calls t _ (search rules) le (search rules)
