use Rattle.std.proofs.Common.{refl}
use Rattle.hose_disk.specs.steps.Disk.{IsTruncated, IsCut}
use Rattle.hose_disk.specs.steps.Images.{cut_to, tried_cut}
use Rattle.hose_disk.specs.steps.Recording.{CallRecord, reads}
use Rattle.hose_disk.specs.declared.call.DiskCall.TheVariants.{Cut}
use Rattle.hose_disk.proofs.Images.{cut_same, steps_cut, steps_tried_cut}
use Rattle.hose_disk.proofs.Calls.{mem_call, on_done, on_failed, step_of_images, time_of}
use Rattle.hose_disk.proofs.mem_disk.MemDiskDisk.cut.Goals as goal

pub returns-clause-exact : goal.returns-clause-exact
returns-clause-exact c =
    rw (← c.self.view_is)
    (mem_call Cut (cut_to c.args.len) (tried_cut c.args.len) _ c.end.new.self c.cut-recorded.new.self c.next-fails.new.self c.next-fails.result c.cut-recorded.result c.end.result
    c.next-fails.ensures.fails c.next-fails.ensures.later c.cut-recorded.ensures.done c.cut-recorded.ensures.begun c.cut-recorded.ensures.err (rw c.is_err.ensures.value at c.end.ensures.ends))

pub returns-clause-cut : goal.returns-clause-cut
returns-clause-cut c =
    on_done Cut _ _ c.args.self.now c.end.new.self c.end.result
    (λ (made : CallRecord). IsTruncated c.args.len (reads c.args.self.now.made) (reads made)) (returns-clause-exact c) refl

pub returns-clause-begun : goal.returns-clause-begun
returns-clause-begun c =
    let same = cut_same c.args.len (reads c.args.self.now.made) in
    on_failed Cut _ _ c.args.self.now c.end.new.self c.end.result
    (λ (made : CallRecord). IsCut c.args.len (reads c.args.self.now.made) (reads made)) (returns-clause-exact c) same same

pub returns-clause-images : goal.returns-clause-images
returns-clause-images c =
    let made = c.args.self.now.made in
    let len = c.args.len in
    step_of_images Cut c.args.self.now c.end.new.self c.end.result (IsCut len) (cut_to len) (tried_cut len) (cut_same len)
    (steps_cut made.first made.calls len) (steps_tried_cut made.first made.calls len) (returns-clause-exact c)

pub returns-clause-time : goal.returns-clause-time
returns-clause-time c =
    time_of Cut c.args.self.now c.end.new.self c.end.result (cut_to c.args.len) (tried_cut c.args.len) (returns-clause-exact c)
