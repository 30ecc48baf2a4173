-- What the answers of a follower make of the history of its journal, and what following comes to.
use Rattle.std.specs.Prelude.{◌≡◌, ◌≢◌, ◌⊎◌, ◌↔◌, ℕ, ◌+◌, ◌<◌, ◌≤◌, List, [], ◌∷◌, ◌++◌, length, All, Contains, Result, Ok, Err, ⊤}
use mathlib.Core.List.{IsPrefix}
use Rattle.hose_io.specs.Frame.{Met}
use Rattle.hose_io.specs.Stream.{Gives}
use Rattle.hose_io.specs.declared.Failed.{Failed}
use Rattle.hose_graph.specs.Network.{Network}
use Rattle.hose_graph.specs.declared.entry.Entry.{Entry}
use Rattle.hose_law.specs.Book.{Book}
use Rattle.hose_law.specs.History.{IsSound, IsSoundAt, book_of}
use Rattle.hose_codec.specs.Spelling.{IsSpelling}
use Rattle.hose_disk.specs.Cabinet.{object_of}
use Rattle.hose_journal.specs.Chain.{chain}
use Rattle.hose_store.specs.Beginning.{HasLeft}
use Rattle.hose_store.specs.Recovery.{IsHistoryOf, digest_of}
use Rattle.hose_follow.specs.Answers.{TellsDiskAnswers}
use Rattle.hose_follow.specs.Ends.{InputEnds, OutputEnds}
use Rattle.hose_follow.specs.Packet.{IsPacket, Packet, packets_bytes}
use Rattle.hose_follow.specs.Replication.{IsLeader, IsSentOf}
use Rattle.hose_follow.specs.declared.answers.Offered.{Offered}
use Rattle.hose_follow.specs.declared.answers.Offered.TheVariants.{Have, Want, Differs, Memory, Unsound, Disk}
use Rattle.hose_follow.specs.declared.following.FollowEnd.{FollowEnd}
use Rattle.hose_follow.specs.declared.following.FollowEnd.TheVariants as end
use Rattle.hose_follow.specs.Layout.{follow_limit}
use Rattle.hose_outside.specs.OnDisk.{HadContent, OfHeld, opening_of}
use Rattle.hose_outside.specs.Parts.{Parts, Tellings}
use Rattle.hose_outside.specs.declared.fault.Fault.{Fault}
use Rattle.hose_outside.specs.declared.fault.Fault.TheVariants as fault

-- ---- answers and the history

module _ (network : Network) (history : List Entry) (packet : Packet) where
  -- The packet is due: its epoch is the next one, and its chain value is the history's.
  pub record IsDueAt : Type 0 where
    pub epoch : packet.epoch ≡ length history + 1
    pub value : packet.chain ≡ chain (digest_of network) history

  -- The packet's body spells this entry, which is sound at the book of the history.
  pub record BringsAt (entry : Entry) : Type 0 where
    pub spells : IsSpelling entry packet.body
    pub sound : IsSoundAt network (book_of 0 history) entry

  -- the packet has the next epoch, and another chain value than the history
  pub record IsOtherAt (own given : List ℕ) : Type 0 where
    pub epoch : packet.epoch ≡ length history + 1
    pub own_value : own ≡ chain (digest_of network) history
    pub given_value : given ≡ packet.chain
    pub differs : given ≢ own

module _ (network : Network) (old : List Entry) (packet : Packet) where
  -- The answer to a packet by a journal of this history, and the history then. An entry is added
  -- where it was due, and committed; where the disk failed at that, it is not in the history.
  abbrev pub AnswersPacket : Offered → List Entry → Type 0
  AnswersPacket (Have n) new = ((packet.epoch ≤ length old) × (n ≡ length old) × (new ≡ old))
      ⊎ ((entry : Entry) × IsDueAt network old packet × BringsAt network old packet entry
      × (n ≡ length new) × (new ≡ old ++ entry ∷ []))
  AnswersPacket (Want n) new =
      (length old + 1 < packet.epoch) × (n ≡ length old + 1) × (new ≡ old)
  AnswersPacket (Differs at own given) new =
      IsOtherAt network old packet own given × (at ≡ length old) × (new ≡ old)
  AnswersPacket Memory new = IsDueAt network old packet
      × ((entry : Entry) × IsSpelling entry packet.body) × (new ≡ old)
  AnswersPacket (Unsound epoch) new = IsDueAt network old packet
      × ((entry : Entry) → ¬ BringsAt network old packet entry)
      × (epoch ≡ packet.epoch) × (new ≡ old)
  AnswersPacket (Disk at) new =
      ((entry : Entry) × IsDueAt network old packet × BringsAt network old packet entry)
      × (at ≡ length old) × (new ≡ old)

-- Packets were answered one after another, each by the history that the one before it left, which
-- was this one at first: the answers, and the history that the last one leaves.
pub data ArePacketsAnswered (network : Network) (since : List Entry) : List Packet → List Offered
    → List Entry → Type 0 where
  none_yet : ArePacketsAnswered network since [] [] since
  packet_more : {packets : List Packet} {answers : List Offered} {middle history : List Entry}
      (packet : Packet) (answer : Offered) → ArePacketsAnswered network since packets answers middle
      → AnswersPacket network middle packet answer history
      → ArePacketsAnswered network since (packets ++ packet ∷ []) (answers ++ answer ∷ []) history

-- The packet's body spells the entry of its epoch, which is sound at the book.
pub record IsBrought (packets : List Packet) (network : Network) (book : Book) (entry : Entry) :
    Type 0 where
  pub sound : IsSoundAt network book entry
  pub packet : Packet
  pub offered : Contains packets packet
  pub epoch : packet.epoch ≡ book.epoch + 1
  pub spells : IsSpelling entry packet.body

-- the answer does not tell that the packet is one of another history, or unsound
abbrev pub IsNoRefusal : Offered → Type 0
IsNoRefusal (Differs at own given) = ⊥
IsNoRefusal (Unsound epoch) = ⊥
IsNoRefusal another = ⊤

-- the packet is one of a leader's list, or its body spells no entry, whoever made it
abbrev pub IsSentOrAsks : Network → List Entry → Packet → Type 0
IsSentOrAsks network leader packet =
    IsSentOf network leader packet ⊎ ((entry : Entry) → ¬ IsSpelling entry packet.body)

-- no packet of a leader's list is refused by its answer
pub data AreNotRefused (network : Network) (leader : List Entry) : List Packet → List Offered
    → Type 0 where
  no_refusal : AreNotRefused network leader [] []
  no_refusal_more : {packets : List Packet} {answers : List Offered} (packet : Packet)
      (answer : Offered) → AreNotRefused network leader packets answers
      → (IsSentOf network leader packet → IsNoRefusal answer)
      → AreNotRefused network leader (packets ++ packet ∷ []) (answers ++ answer ∷ [])

-- For each list of a leader of which the follower had a beginning, and whose packets these are, or
-- packets that spell no entry: the follower has a beginning of it afterwards, and no packet of the
-- list is refused.
abbrev pub FollowsLeaders : Network → List Packet → List Offered → List Entry → List Entry → Type 0
FollowsLeaders network packets answers since history = (leader : List Entry)
    → IsLeader network leader → IsPrefix since leader → All (IsSentOrAsks network leader) packets
    → IsPrefix history leader × AreNotRefused network leader packets answers

-- ---- an input

module _ {I O C E : Type 0} (tells : Tellings I O C E) (before after : Parts I O C)
    (network : Network) where
  -- What following the input comes to for a journal that had a history: its whole packets are
  -- answered one after another, which leads to this history. The history goes on from the first one
  -- and is sound. `InputEnds` says how the input stands to what comes after the packets, and
  -- `OutputEnds` what is out.
  pub record FollowsFrom (since history : List Entry) (ended : FollowEnd) : Type 0 where
    pub packets : List Packet
    pub rest : List ℕ
    pub answers : List Offered
    pub gives : Gives (tells.source.content before.input) (tells.source.content after.input)
        (packets_bytes packets ++ rest)
    pub are : All IsPacket packets
    pub answered : ArePacketsAnswered network since packets answers history
    pub of_leaders : FollowsLeaders network packets answers since history
    pub begins : IsPrefix since history
    pub sound : IsSound network 0 history
    pub input : InputEnds tells.source before.input after.input packets rest ended
    pub output : OutputEnds tells.sink before.output after.output answers ended
    pub limit : length (packets_bytes packets ++ rest) ≤ follow_limit + 1
    pub too_long : (ended ≡ end.TooLong) ↔ (follow_limit < length (packets_bytes packets ++ rest))
    -- without memory to begin with nothing was taken
    pub memory : ended ≡ end.Memory → history ≡ since

-- what ended following, as a fault of the program
abbrev pub following_done : FollowEnd → Result ⊤ Fault
following_done end.End = Ok tt
following_done (end.Packet at) = Err (fault.Packet at)
following_done end.Read = Err fault.Read
following_done end.Write = Err fault.Write
following_done end.TooLong = Err fault.TooLong
following_done end.Memory = Err fault.Memory

-- ---- by the journal of a name

module _ {I O C E : Type 0} (tells : Tellings I O C E) (name : List ℕ)
    (before after : Parts I O C) (network : Network) where
  -- The input was followed by the journal, which was closed and put back then. It stood for a
  -- history, as it was read at its opening. Failures of the disk were told no more often than the
  -- disk has failed, and the cabinet failed where closing did. Where an image of the disk has one
  -- entry more than a part of the history, it is that of a packet that was offered.
  pub record HasFollowed (ended : FollowEnd) (closing : Result ⊤ Failed) : Type 0 where
    pub since : List Entry
    pub history : List Entry
    pub begun : HadContent tells.cabinet tells.disk before.cabinet name
        (IsHistoryOf network since)
    pub follows : FollowsFrom tells before after network since history ended
    pub disks : TellsDiskAnswers 0 follows.answers (tells.cabinet.frame after.cabinet).returned
    pub met : Met (object_of (tells.cabinet.frame before.cabinet))
        (object_of (tells.cabinet.frame after.cabinet)) closing
    pub left : OfHeld tells.cabinet name before.cabinet after.cabinet (λ was left.
        HasLeft tells.disk (IsBrought follows.packets) (tells.disk.may_leave was)
        (opening_of tells.disk network since was) history left closing)
