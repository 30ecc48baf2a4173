-- What stands after `follow`, by what ended it.
use Rattle.std.specs.Prelude.{◌≡◌, ◌≢◌, ◌⊎◌, ◌↔◌, ℕ, ◌+◌, ◌<◌, ◌≤◌, List, length, All, Option, Some, None, Result, ⊤}
use Rattle.hose_io.specs.Frame.{Rose}
use Rattle.hose_io.specs.Stream.{Gives, Stream}
use Rattle.hose_io.specs.declared.Failed.{Failed}
use Rattle.hose_graph.specs.Network.{Network}
use Rattle.hose_graph.specs.declared.entry.Entry.{Entry}
use Rattle.hose_store.specs.Recovery.{IsHistoryOf}
use Rattle.hose_follow.specs.Packet.{IsPacket, Packet, packets_bytes}
use Rattle.hose_follow.specs.declared.following.FollowEnd.{FollowEnd}
use Rattle.hose_follow.specs.Layout.{follow_limit}
use Rattle.hose_outside.specs.NamedOutcome.{JournalIs, NamesOutcome, Purpose}
use Rattle.hose_outside.specs.Reading.{IsTextServable, PricedNames, named_text}
use Rattle.hose_outside.specs.Ending.{EndsAfter, NoneFailed}
use Rattle.hose_copying.specs.Following.{HasFollowed, following_done}
use Rattle.hose_outside.specs.Parts.{Parts, Tellings}
use Rattle.hose_outside.specs.Unopened.{first_of}
use Rattle.hose_outside.specs.TopologyTold.{limit_of, notation_of}

-- the input is told and not too long, and is packets, one after the other
abbrev pub IsOfPackets : Option Stream → Type 0
IsOfPackets None = ⊥
IsOfPackets (Some stream) = ((packets : List Packet) × All IsPacket packets
    × (stream.left ≡ packets_bytes packets)) × (length stream.left ≤ follow_limit)

-- the input is told and not too long, and is no packets one after the other
abbrev pub IsOfNoPackets : Option Stream → Type 0
IsOfNoPackets None = ⊥
IsOfNoPackets (Some stream) = ((packets : List Packet) → All IsPacket packets
    → stream.left ≢ packets_bytes packets) × (length stream.left ≤ follow_limit)

module _ {I O C E : Type 0} (tells : Tellings I O C E) where
  -- The input was followed by the journal, and the last line tells the first fault, if there is
  -- one.
  abbrev pub IsFollowed : List ℕ → Parts I O C → Parts I O C → ℕ → Network → Type 0
  IsFollowed journal before after status network = EndsAfter tells.sink after.output status
      (λ left done. (ended : FollowEnd) × (closing : Result ⊤ Failed)
      × HasFollowed tells journal before (record after { output = left }) network ended closing
      × (done ≡ first_of (following_done ended) closing))

  module _ (names : PricedNames) (before after : Parts I O C) where
    -- Following is to tell that the input was followed; where it was not, nothing was taken of it.
    abbrev pub to_follow : Purpose
    to_follow = record {
      IsFulfilled = IsFollowed names.journal before after;
      Untouched = after.input ≡ before.input;
      OthersHeld = ¬ Rose (tells.source.frame before.input) (tells.source.frame after.input);
    }

    -- the text is one of a network, the journal is one of that network, and no call failed
    pub record IsSetUp : Type 0 where
      pub servable : IsTextServable tells names before
      pub journal_is : JournalIs tells names before after (λ network bytes.
          (history : List Entry) × IsHistoryOf network history bytes)
      pub held : NoneFailed tells before after to_follow.OthersHeld

    -- The topology and the journal that were named were read, and the input was followed; or not,
    -- and nothing but the last line is out, which tells why.
    pub record FollowOutcome (status : ℕ) : Type 0 where
      -- what was taken of the text of the topology, and what is left of it
      pub text : List ℕ
      pub left : Option Stream
      pub gives_text : Gives (named_text tells names before) left text
      pub text_limit : length text ≤ limit_of (notation_of names.topology) + 1
      -- what was taken of the input
      pub taken : List ℕ
      pub gives : Gives (tells.source.content before.input) (tells.source.content after.input) taken
      pub limit : length taken ≤ follow_limit + 1
      -- more than a limit was taken of one of the two exactly where that is told
      pub too_long : (status ≡ 8) ↔ ((limit_of (notation_of names.topology) < length text)
          ⊎ (follow_limit < length taken))
      pub named : NamesOutcome tells names before after to_follow left status
      -- packets are followed to their end, but for want of memory
      pub complete : IsSetUp → IsOfPackets (tells.source.content before.input)
          → (status ≡ 0) ⊎ (status ≡ 7)
      -- an input that is not packets is told
      pub no_packets : IsSetUp → IsOfNoPackets (tells.source.content before.input)
          → (status ≡ 11) ⊎ (status ≡ 7)
