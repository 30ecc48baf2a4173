-- Following an input by exchanges: in each a packet is answered, or more is taken.
use Rattle.std.specs.Prelude.{◌≡◌, ◌≢◌, ◌⊎◌, ℕ, ◌+◌, ◌-◌, ◌<◌, ◌≤◌, Bool, true, false, List, [], ◌∷◌, ◌++◌, length, All, Result, Ok, Err, ⊤}
use Rattle.hose_io.specs.Frame.{Stays}
use Rattle.hose_io.specs.Stream.{Gives, Grows, IsAtEnd}
use Rattle.hose_io.specs.Writing.{GrowsInPart}
use Rattle.hose_io.specs.declared.source.Source.{Ghosts as SourceGhosts}
use Rattle.hose_disk.specs.Disk.{object_frame}
use Rattle.hose_store.specs.steps.Store.{KeptStore}
use Rattle.hose_follow.specs.Answers.{TellsDiskAnswers, answer_line, offered_texts}
use Rattle.hose_follow.specs.steps.Arriving.{BeginsPacket}
use Rattle.hose_follow.specs.Ends.{IsAskedLast}
use Rattle.hose_follow.specs.Follower.{Faulted}
use Rattle.hose_follow.specs.steps.Follower.{Follower, FollowerTellings, follower}
use Rattle.hose_follow.specs.steps.Offering.{AreOffered, IsOffered}
use Rattle.hose_follow.specs.Packet.{BeginsNoPacket, IsPacket, IsPartOfPacket, Packet, packets_bytes}
use Rattle.hose_follow.specs.declared.answers.Offered.{Offered}
use Rattle.hose_follow.specs.Layout.{follow_limit}
use Rattle.hose_follow.specs.declared.following.Intake.{Intake}
use Rattle.hose_follow.specs.declared.following.FollowEnd.{FollowEnd}
use Rattle.hose_follow.specs.declared.following.FollowEnd.TheVariants.{End, Packet as BadPacket, Read, Write, TooLong, Memory}

-- ---- taking more

-- how far an input was taken: its source, the bytes that were taken of it and belong to no packet
-- that was answered, and how many were taken
pub record InputState (S : Type 0) : Type 0 where
  pub source : S
  pub pending : List ℕ
  pub taken : ℕ

-- how far an input was taken, by what is kept of it
abbrev pub input_state : {S : Type 0} → S → Intake → InputState S
input_state source intake =
    record { source = source; pending = intake.buffer.pending; taken = intake.taken }

-- the source gave nothing in a call, and did not fail
pub record TakesNothing {S : Type 0} (source : SourceGhosts S) (old new : S) : Type 0 where
  pub gives : Gives (source.content old) (source.content new) []
  pub frame : source.frame new ≡ source.frame old

module _ {S : Type 0} (source : SourceGhosts S) (old new : InputState S) where
  -- bytes were taken, within the limit
  pub record TakesMoreBytes : Type 0 where
    pub bytes : List ℕ
    pub some : 0 < length bytes
    pub gives : Gives (source.content old.source) (source.content new.source) bytes
    pub frame : source.frame new.source ≡ source.frame old.source
    pub went : source.went old.source new.source
    pub pending_is : new.pending ≡ old.pending ++ bytes
    pub taken_is : new.taken ≡ old.taken + length bytes
    pub limit : new.taken ≤ follow_limit

  -- the byte past the limit was taken
  pub record TakesTooMuch : Type 0 where
    pub limit : old.taken ≡ follow_limit
    pub byte : ℕ
    pub gives : Gives (source.content old.source) (source.content new.source) (byte ∷ [])
    pub frame : source.frame new.source ≡ source.frame old.source

  -- the source was at its end
  pub record ReachesEnd : Type 0 where
    pub none : TakesNothing source old.source new.source
    pub at_end : IsAtEnd (source.content new.source)

  -- the source failed, and gave nothing
  pub record BreaksOff : Type 0 where
    pub gives : source.content new.source ≡ source.content old.source
    pub frame : Faulted (source.frame old.source) (source.frame new.source)

  -- More was taken; or the source met its end; or it failed, or gave more than the limit.
  abbrev pub TakesMore : Result Bool FollowEnd → Type 0
  TakesMore (Ok true) = TakesMoreBytes
  TakesMore (Ok false) = (new.pending ≡ old.pending) × (new.taken ≡ old.taken) × ReachesEnd
  TakesMore (Err Read) = BreaksOff
  TakesMore (Err TooLong) = TakesTooMuch
  TakesMore (Err End) = ⊥
  TakesMore (Err (BadPacket at)) = ⊥
  TakesMore (Err Write) = ⊥
  TakesMore (Err Memory) = ⊥

  -- More was taken after a part of a packet, or after nothing: at the end of the source nothing may
  -- be pending.
  abbrev pub TakesPart : Result ⊤ FollowEnd → Type 0
  TakesPart (Ok _) = TakesMoreBytes
  TakesPart (Err End) = (old.pending ≡ []) × ReachesEnd
  TakesPart (Err (BadPacket at)) =
      (at ≡ old.taken - length old.pending) × (old.pending ≢ []) × ReachesEnd
  TakesPart (Err Read) = BreaksOff
  TakesPart (Err TooLong) = TakesTooMuch
  TakesPart (Err Write) = ⊥
  TakesPart (Err Memory) = ⊥

-- ---- an exchange

-- how far an input was followed: what was taken of it, the sink and the store
pub record FollowState (S O D : Type 0) : Type 0 where
  pub input : InputState S
  pub sink : O
  pub store : KeptStore D

-- how far an input was followed, by what is kept of it
abbrev pub follow_state : {S O D : Type 0} → S → Intake → O → KeptStore D → FollowState S O D
follow_state source intake sink store =
    record { input = input_state source intake; sink = sink; store = store }

-- the follower, however far it followed an input
abbrev pub follower_of : {S O D : Type 0} → FollowState S O D → Follower S O D
follower_of state = follower state.input.source state.sink state.store

module _ {S O D : Type 0} (tells : FollowerTellings S O D) where
  -- The packet that was pending was offered; `puts` says how much is out of its line.
  pub record AnswersPending (old new : FollowState S O D) (puts : List ℕ → Type 0) : Type 0 where
    pub packet : Packet
    pub rest : List ℕ
    pub begins : BeginsPacket old.input.pending packet rest
    pub pending_is : new.input.pending ≡ rest
    pub answer : Offered
    pub offered : IsOffered tells.disk old.store packet answer new.store
    pub out : puts (answer_line answer)
    pub same_source : new.input.source ≡ old.input.source
    pub same_taken : new.input.taken ≡ old.input.taken

  -- neither the sink nor the store was called
  pub record TouchesNone (old new : FollowState S O D) : Type 0 where
    pub same_sink : new.sink ≡ old.sink
    pub same_store : new.store ≡ old.store

  -- An exchange: a packet was answered, or more was taken; or how following ends.
  abbrev pub AdvancesTo : FollowState S O D → FollowState S O D → Result ⊤ FollowEnd → Type 0
  AdvancesTo old new (Ok _) =
      (AnswersPending old new (Grows (tells.sink.content old.sink) (tells.sink.content new.sink))
      × (tells.sink.frame new.sink ≡ tells.sink.frame old.sink))
      ⊎ (IsPartOfPacket old.input.pending × TakesMoreBytes tells.source old.input new.input
      × TouchesNone old new)
  AdvancesTo old new (Err End) = (old.input.pending ≡ [])
      × ReachesEnd tells.source old.input new.input × TouchesNone old new
  AdvancesTo old new (Err (BadPacket at)) =
      (at ≡ old.input.taken - length old.input.pending)
      × (BeginsNoPacket old.input.pending
      ⊎ ((old.input.pending ≢ []) × IsPartOfPacket old.input.pending
      × IsAtEnd (tells.source.content new.input.source)))
      × TakesNothing tells.source old.input.source new.input.source × TouchesNone old new
  AdvancesTo old new (Err Read) = IsPartOfPacket old.input.pending
      × BreaksOff tells.source old.input new.input × TouchesNone old new
  AdvancesTo old new (Err Write) =
      AnswersPending old new
      (GrowsInPart (tells.sink.content old.sink) (tells.sink.content new.sink))
      × Faulted (tells.sink.frame old.sink) (tells.sink.frame new.sink)
  AdvancesTo old new (Err TooLong) = IsPartOfPacket old.input.pending
      × TakesTooMuch tells.source old.input new.input × TouchesNone old new
  AdvancesTo old new (Err Memory) = ⊥

  -- Exchanges from a first state on: packets were answered, and all lines are out. More was taken
  -- only where each whole packet was answered.
  pub record FollowsOn (first now : FollowState S O D) : Type 0 where
    pub bytes : List ℕ
    pub gives : Gives (tells.source.content first.input.source)
        (tells.source.content now.input.source) bytes
    pub packets : List Packet
    pub parts : bytes ≡ packets_bytes packets ++ now.input.pending
    pub are : All IsPacket packets
    pub answers : List Offered
    pub offered : AreOffered tells.disk first.store packets answers now.store
    pub taken : now.input.taken ≡ length bytes
    pub limit : now.input.taken ≤ follow_limit
    pub out : Grows (tells.sink.content first.sink) (tells.sink.content now.sink)
        (offered_texts answers)
    pub asked : ((packets ≡ []) × (now.input.pending ≡ []))
        ⊎ IsAskedLast tells.source first.input.source now.input.source packets
    pub source_held : tells.source.frame now.input.source ≡ tells.source.frame first.input.source
    pub sink_held : tells.sink.frame now.sink ≡ tells.sink.frame first.sink
    pub stays : Stays (object_frame (tells.disk.frame first.store.journal.disk))
        (object_frame (tells.disk.frame now.store.journal.disk))
    pub disks : TellsDiskAnswers (tells.disk.frame first.store.journal.disk).faults answers
        (tells.disk.frame now.store.journal.disk).faults
