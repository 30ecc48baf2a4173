use Rattle.std.proofs.Common.{refl}
use Rattle.hose_disk.specs.steps.Disk.{Only}
use Rattle.hose_disk.specs.steps.Images.{idle, synced, IsImage}
use Rattle.hose_disk.specs.steps.Recording.{CallRecord, reads}
use Rattle.hose_disk.specs.declared.call.DiskCall.TheVariants.{Sync}
use Rattle.hose_disk.proofs.Images.{none_new_idle, none_new_synced, only_synced}
use Rattle.hose_disk.proofs.Calls.{mem_call, no_new_image, on_done, same_content, time_of}
use Rattle.hose_disk.proofs.mem_disk.MemDiskDisk.sync.Goals as goal

pub returns-clause-exact : goal.returns-clause-exact
returns-clause-exact c =
    rw (← c.self.view_is)
    (mem_call Sync synced idle _ c.end.new.self c.sync-recorded.new.self c.next-fails.new.self c.next-fails.result c.sync-recorded.result c.end.result
    c.next-fails.ensures.fails c.next-fails.ensures.later c.sync-recorded.ensures.done c.sync-recorded.ensures.begun c.sync-recorded.ensures.err (rw c.is_err.ensures.value at c.end.ensures.ends))

pub returns-clause-durable : goal.returns-clause-durable
returns-clause-durable c =
    let made = c.args.self.now.made in
    on_done Sync _ _ c.args.self.now c.end.new.self c.end.result
    (λ (now : CallRecord). Only (reads made) (IsImage now.first now.calls)) (returns-clause-exact c) (only_synced made.first made.calls)

pub returns-clause-same : goal.returns-clause-same
returns-clause-same c = same_content Sync c.args.self.now c.end.new.self c.end.result synced idle refl refl (returns-clause-exact c)

pub returns-clause-images : goal.returns-clause-images
returns-clause-images c =
    let made = c.args.self.now.made in
    no_new_image Sync c.args.self.now c.end.new.self c.end.result synced idle (none_new_synced made.first made.calls) (none_new_idle made.first made.calls) (returns-clause-exact c)

pub returns-clause-time : goal.returns-clause-time
returns-clause-time c = time_of Sync c.args.self.now c.end.new.self c.end.result synced idle (returns-clause-exact c)
