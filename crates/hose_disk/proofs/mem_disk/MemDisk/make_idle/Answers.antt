use Rattle.std.proofs.Common.{refl}
use Rattle.hose_disk.specs.steps.Images.{idle}
use Rattle.hose_disk.proofs.Calls.{mem_call, no_new_image, same_content, time_of}
use Rattle.hose_disk.proofs.Images.{none_new_idle}
use Rattle.hose_disk.proofs.mem_disk.MemDisk.make_idle.Goals as goal

pub returns-clause-exact : goal.returns-clause-exact
returns-clause-exact c =
    rw (← c.self.view_is)
    (mem_call c.args.kind idle idle _ c.end.new.self c.idle-recorded.new.self c.next-fails.new.self c.next-fails.result c.idle-recorded.result c.end.result
    c.next-fails.ensures.fails c.next-fails.ensures.later (λ _. c.idle-recorded.ensures.ok) (λ _. c.idle-recorded.ensures.ok) c.idle-recorded.ensures.err (rw c.is_err.ensures.value at c.end.ensures.ends))

pub returns-clause-same : goal.returns-clause-same
returns-clause-same c = same_content c.args.kind c.args.self.now c.end.new.self c.end.result idle idle refl refl (returns-clause-exact c)

pub returns-clause-images : goal.returns-clause-images
returns-clause-images c =
    let made = c.args.self.now.made in
    let none = none_new_idle made.first made.calls in
    no_new_image c.args.kind c.args.self.now c.end.new.self c.end.result idle idle none none (returns-clause-exact c)

pub returns-clause-time : goal.returns-clause-time
returns-clause-time c = time_of c.args.kind c.args.self.now c.end.new.self c.end.result idle idle (returns-clause-exact c)
