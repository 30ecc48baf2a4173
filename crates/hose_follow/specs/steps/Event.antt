-- What may happen to a leader and its follower.
use Rattle.std.specs.Prelude.{ℕ, List}
use Rattle.hose_graph.specs.declared.entry.Entry.{Entry}
use Rattle.hose_follow.specs.Packet.{Packet}
use Rattle.hose_follow.specs.declared.answers.Offered.{Offered}

-- An event. Packets that are lost are never offered; those that are repeated or come in another
-- order are offered again, or later.
pub data Event : Type 0 where
  -- the leader accepts an entry
  accepts : Entry → Event
  -- it sends the packet of a place of its list
  sends : ℕ → Event
  -- a packet is offered to the follower, which answers so
  offers : Packet → Offered → Event
  -- a packet that brings no entry, whoever made it, is offered to the follower, which answers so
  asks : Packet → Offered → Event
  -- the follower, which was stopped or closed its store, opens what this image holds
  reopens : List ℕ → Event
