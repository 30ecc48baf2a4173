use Rattle.std.proofs.Common.{◌≡◌, take}
use Rattle.hose_disk.specs.steps.Images.{read_of}
use Rattle.hose_disk.specs.steps.Picks.{picked}
use Rattle.hose_disk.specs.steps.Recording.{steps_of}
use Rattle.hose_disk.proofs.recording.replay.Given as goal

abbrev pub invariant-loop-call : goal.invariant-loop-call
invariant-loop-call l =
    (l.read.items ≡ read_of l.first (steps_of (take l.call-index l.calls)))
    × (l.image.items ≡ picked l.pick l.first (steps_of (take l.call-index l.calls)))
