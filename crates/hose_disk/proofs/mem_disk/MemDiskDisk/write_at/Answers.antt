use Rattle.std.proofs.Common.{refl, length}
use Rattle.hose_disk.specs.steps.Disk.{IsOverwritten, Torn}
use Rattle.hose_disk.specs.steps.Images.{wrote, tried_write}
use Rattle.hose_disk.specs.steps.Recording.{CallRecord, reads}
use Rattle.hose_disk.specs.declared.call.DiskCall.TheVariants.{Write}
use Rattle.hose_disk.proofs.Images.{steps_tried_write, steps_write, torn_same}
use Rattle.hose_disk.proofs.Calls.{mem_call, on_done, on_failed, step_of_images, time_of}
use Rattle.hose_disk.proofs.mem_disk.MemDiskDisk.write_at.Goals as goal

pub returns-clause-exact : goal.returns-clause-exact
returns-clause-exact c =
    rw (← c.self.view_is)
    (mem_call Write (wrote c.args.at c.args.bytes.now) (tried_write c.args.at (length c.args.bytes.now)) _ c.end.new.self c.write-recorded.new.self c.next-fails.new.self c.next-fails.result c.write-recorded.result c.end.result
    c.next-fails.ensures.fails c.next-fails.ensures.later c.write-recorded.ensures.done c.write-recorded.ensures.begun c.write-recorded.ensures.err (rw c.is_err.ensures.value at c.end.ensures.ends))

pub returns-clause-written : goal.returns-clause-written
returns-clause-written c =
    on_done Write _ _ c.args.self.now c.end.new.self c.end.result
    (λ (made : CallRecord). IsOverwritten c.args.at c.args.bytes.now (reads c.args.self.now.made) (reads made)) (returns-clause-exact c) refl

pub returns-clause-begun : goal.returns-clause-begun
returns-clause-begun c =
    let same = torn_same c.args.at (length c.args.bytes.now) (reads c.args.self.now.made) in
    on_failed Write _ _ c.args.self.now c.end.new.self c.end.result
    (λ (made : CallRecord). Torn c.args.at (length c.args.bytes.now) (reads c.args.self.now.made) (reads made)) (returns-clause-exact c) same same

pub returns-clause-images : goal.returns-clause-images
returns-clause-images c =
    let made = c.args.self.now.made in
    let at = c.args.at in
    let bytes = c.args.bytes.now in
    step_of_images Write c.args.self.now c.end.new.self c.end.result (Torn at (length bytes)) (wrote at bytes) (tried_write at (length bytes)) (torn_same at (length bytes))
    (steps_write made.first made.calls at bytes c.requires.within) (steps_tried_write made.first made.calls at (length bytes)) (returns-clause-exact c)

pub returns-clause-time : goal.returns-clause-time
returns-clause-time c =
    time_of Write c.args.self.now c.end.new.self c.end.result
    (wrote c.args.at c.args.bytes.now) (tried_write c.args.at (length c.args.bytes.now)) (returns-clause-exact c)
