-- A law of cabinets, for callers that take a disk out, use it and put it back.
use Rattle.std.proofs.Common.{◌≡◌, ◌≤◌, refl}
use Rattle.hose_io.specs.Frame.{Stays}
use Rattle.hose_io.proofs.Frames.{Stays-same, Stays-next}
use Rattle.hose_disk.specs.Disk.{DiskFrame}
use Rattle.hose_disk.specs.Cabinet.{CabinetFrame, object_of, after_back}

-- A call that took a disk out and put it back meets the frame, where it fails exactly if the last
-- call of the disk did.
module _ (disk : DiskFrame) (old taken new : CabinetFrame) (same : object_of taken ≡ object_of old)
    (back : new ≡ after_back disk taken) (never_falls : taken.faults ≤ new.faults) where
  stays : Stays (object_of old) (object_of new)
  stays = Stays-next (Stays-same same) (record { never_falls = never_falls; number = refl; loan = refl })
