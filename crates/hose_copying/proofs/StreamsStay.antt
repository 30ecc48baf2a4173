-- What following and shipping leave of their streams: each is the object that it was.
use Rattle.std.proofs.Common.{ℕ, List, Result, Ok, Err, ap}
use Rattle.hose_io.specs.Frame.{Stays}
use Rattle.hose_io.specs.declared.sink.Sink.{Ghosts as SinkGhosts}
use Rattle.hose_io.specs.declared.source.Source.{Ghosts as SourceGhosts}
use Rattle.hose_io.proofs.Frames.{Stays-same}
use Rattle.hose_disk.specs.declared.disk.Disk.{Ghosts as DiskGhosts}
use Rattle.hose_follow.specs.Ends.{InputEnds, OutputEnds}
use Rattle.hose_follow.specs.Packet.{Packet}
use Rattle.hose_follow.specs.steps.Shipping.{Shipment, Ships}
use Rattle.hose_follow.specs.declared.answers.Offered.{Offered}
use Rattle.hose_follow.specs.declared.following.FollowEnd.{FollowEnd}
use Rattle.hose_follow.specs.declared.following.FollowEnd.TheVariants as end
use Rattle.hose_follow.specs.declared.shipping.ShipFault.{ShipFault}
use Rattle.hose_follow.specs.declared.shipping.ShipFault.TheVariants.{Store, Write}

module _ {S : Type 0} (source : SourceGhosts S) (old new : S) (packets : List Packet) (rest : List ℕ) where
  -- the input that was followed
  pub input_stays : (ended : FollowEnd) → InputEnds source old new packets rest ended → Stays (source.frame old) (source.frame new)
  input_stays end.End ends = Stays-same ends.2
  input_stays (end.Packet at) ends = Stays-same ends.2
  input_stays end.Read ends = ends.1.stays
  input_stays end.Write ends = Stays-same ends.0
  input_stays end.TooLong ends = Stays-same ends.1
  input_stays end.Memory ends = Stays-same (ap source.frame ends)

module _ {O : Type 0} (sink : SinkGhosts O) (before after : O) where
  -- the output of the answers
  pub output_stays : (answers : List Offered) (ended : FollowEnd) → OutputEnds sink before after answers ended → Stays (sink.frame before) (sink.frame after)
  output_stays answers end.End ends = Stays-same ends.1
  output_stays answers (end.Packet at) ends = Stays-same ends.1
  output_stays answers end.Read ends = Stays-same ends.1
  output_stays answers end.Write ends = ends.1.stays
  output_stays answers end.TooLong ends = Stays-same ends.1
  output_stays answers end.Memory ends = Stays-same (ap sink.frame ends)

  -- the output of the packets
  pub shipped_stays : {D : Type 0} (disk : DiskGhosts D) (shipment : Shipment D) (left : D) (shipped : Result ℕ ShipFault) → Ships sink disk before after shipment left shipped → Stays (sink.frame before) (sink.frame after)
  shipped_stays disk shipment left (Ok count) ships = Stays-same ships.1
  shipped_stays disk shipment left (Err (Store fault)) ships = Stays-same ships.1
  shipped_stays disk shipment left (Err Write) ships = ships.1.stays
