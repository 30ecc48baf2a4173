-- How following an input ends, and what it leaves: steps of proofs.
use Rattle.std.specs.Prelude.{◌≡◌, ◌↔◌, ℕ, ◌+◌, ◌<◌, ◌≤◌, List, [], ◌++◌, length, All}
use Rattle.hose_io.specs.Frame.{Stays}
use Rattle.hose_io.specs.Stream.{Gives}
use Rattle.hose_disk.specs.Disk.{object_frame}
use Rattle.hose_follow.specs.Answers.{TellsDiskAnswers}
use Rattle.hose_follow.specs.steps.Follower.{Follower, FollowerTellings}
use Rattle.hose_follow.specs.steps.Offering.{AreOffered}
use Rattle.hose_follow.specs.Packet.{IsPacket, Packet, packets_bytes}
use Rattle.hose_follow.specs.declared.answers.Offered.{Offered}
use Rattle.hose_follow.specs.Layout.{follow_limit}
use Rattle.hose_follow.specs.declared.following.FollowEnd.{FollowEnd}
use Rattle.hose_follow.specs.declared.following.FollowEnd.TheVariants.{TooLong, Memory}
use Rattle.hose_follow.specs.Ends.{InputEnds, OutputEnds}

-- What following an input comes to: the packets that were taken of it were answered, each at the
-- store that the one before it left. At `Memory` nothing was done.
pub record FollowsInput {S O D : Type 0} (tells : FollowerTellings S O D)
    (before after : Follower S O D) (end : FollowEnd) : Type 0 where
  -- what the source gave, and the packets of it that were answered
  pub bytes : List ℕ
  pub gives : Gives (tells.source.content before.source) (tells.source.content after.source) bytes
  pub packets : List Packet
  pub rest : List ℕ
  pub parts : bytes ≡ packets_bytes packets ++ rest
  pub are : All IsPacket packets
  -- their answers
  pub answers : List Offered
  pub offered : AreOffered tells.disk before.store packets answers after.store
  pub input : InputEnds tells.source before.source after.source packets rest end
  pub output : OutputEnds tells.sink before.sink after.sink answers end
  pub limit : length bytes ≤ follow_limit + 1
  pub too_long : (end ≡ TooLong) ↔ (follow_limit < length bytes)
  pub memory : end ≡ Memory → (bytes ≡ []) × (after.store ≡ before.store)
  -- failures of the disk were told no more often than its count rose
  pub stays : Stays (object_frame (tells.disk.frame before.store.journal.disk))
      (object_frame (tells.disk.frame after.store.journal.disk))
  pub disks : TellsDiskAnswers (tells.disk.frame before.store.journal.disk).faults answers
      (tells.disk.frame after.store.journal.disk).faults
