-- How following an input ends.
use Rattle.std.proofs.Common.{[], refl, inl, arith}
use Rattle.std.proofs.lemmas.List.Elements.{All-nil}
use Rattle.hose_io.proofs.Frames.{Stays-none}
use Rattle.hose_disk.specs.Disk.{object_frame}
use Rattle.hose_io.proofs.Streams.{Gives-nil}
use Rattle.hose_follow.specs.steps.Ends.{FollowsInput}
use Rattle.hose_follow.specs.steps.Follower.{Follower, FollowerTellings}
use Rattle.hose_follow.specs.steps.Offering.{none_yet}
use Rattle.hose_follow.specs.Packet.{IsPacket}
use Rattle.hose_follow.specs.declared.following.FollowEnd.TheVariants.{Memory}

module _ {S O D : Type 0} (tells : FollowerTellings S O D) where
  -- nothing was done
  pub nothing_done : (follower : Follower S O D) → FollowsInput tells follower follower Memory
  nothing_done follower = record {
    bytes = [];
    gives = Gives-nil (tells.source.content follower.source);
    packets = [];
    rest = [];
    parts = refl;
    are = All-nil IsPacket;
    answers = [];
    offered = none_yet;
    input = refl;
    output = refl;
    limit = omega arith;
    too_long = (λ same. absurd (cc same), λ more. absurd (omega (arith, more)));
    memory = λ _. (refl, refl);
    stays = Stays-none (object_frame (tells.disk.frame follower.store.journal.disk));
    disks = inl (omega arith);
  }
