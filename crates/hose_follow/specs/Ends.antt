-- How following an input ends, and what it leaves.
use Rattle.std.specs.Prelude.{◌≡◌, ◌≢◌, ◌⊎◌, ℕ, List, [], ◌∷◌, ◌++◌, length}
use Rattle.hose_io.specs.Stream.{Gives, Grows, IsAtEnd}
use Rattle.hose_io.specs.declared.sink.Sink.{Ghosts as SinkGhosts}
use Rattle.hose_io.specs.declared.source.Source.{Ghosts as SourceGhosts}
use Rattle.hose_follow.specs.Answers.{CutsLastAnswer, offered_texts}
use Rattle.hose_follow.specs.Follower.{Faulted}
use Rattle.hose_follow.specs.Packet.{BeginsNoPacket, IsPartOfPacket, Packet, packets_bytes}
use Rattle.hose_follow.specs.declared.answers.Offered.{Offered}
use Rattle.hose_follow.specs.declared.following.FollowEnd.{FollowEnd}
use Rattle.hose_follow.specs.declared.following.FollowEnd.TheVariants.{End, Packet as BadPacket, Read, Write, TooLong, Memory}

-- When the source was asked last, each whole packet that it had given was answered: these are the
-- first of those that were answered since.
pub record IsAskedLast {S : Type 0} (source : SourceGhosts S) (old new : S)
    (answered : List Packet) : Type 0 where
  pub asked : S
  pub first : List Packet
  pub since : List Packet
  pub are : answered ≡ first ++ since
  pub part : List ℕ
  pub gives : Gives (source.content old) (source.content asked) (packets_bytes first ++ part)
  pub is_part : IsPartOfPacket part
  pub went : source.went asked new

-- The source was asked last before the last of these packets was there whole: so its line was not
-- kept back for more of the source.
abbrev pub IsAskedNoMore : {S : Type 0} → SourceGhosts S → S → S → List Packet → Type 0
IsAskedNoMore source old new packets = (answered : List Packet) × (last : Packet)
    × (packets ≡ answered ++ last ∷ []) × IsAskedLast source old new answered

-- How the bytes after the packets that were answered stand to the end, and what was done to the
-- source. The byte past the limit belongs to no packet.
abbrev pub InputEnds : {S : Type 0} → SourceGhosts S → S → S → List Packet → List ℕ → FollowEnd
    → Type 0
InputEnds source old new packets rest End = (rest ≡ []) × IsAtEnd (source.content new)
    × (source.frame new ≡ source.frame old)
InputEnds source old new packets rest (BadPacket at) = (at ≡ length (packets_bytes packets))
    × (BeginsNoPacket rest
    ⊎ ((rest ≢ []) × IsPartOfPacket rest × IsAtEnd (source.content new)))
    × (source.frame new ≡ source.frame old)
InputEnds source old new packets rest Read =
    IsPartOfPacket rest × Faulted (source.frame old) (source.frame new)
InputEnds source old new packets rest Write =
    (source.frame new ≡ source.frame old) × IsAskedNoMore source old new packets
InputEnds source old new packets rest TooLong =
    ((front : List ℕ) × (byte : ℕ) × (rest ≡ front ++ byte ∷ []) × IsPartOfPacket front)
    × (source.frame new ≡ source.frame old)
InputEnds source old new packets rest Memory = new ≡ old

-- all lines are out, and the sink did not fail
abbrev pub AllLinesOut : {O : Type 0} → SinkGhosts O → O → O → List Offered → Type 0
AllLinesOut sink before after answers =
    Grows (sink.content before) (sink.content after) (offered_texts answers)
    × (sink.frame after ≡ sink.frame before)

-- What is out of the answers, and what was done to the sink: all lines, or all but a part of the
-- last one where the sink failed.
abbrev pub OutputEnds : {O : Type 0} → SinkGhosts O → O → O → List Offered → FollowEnd → Type 0
OutputEnds sink before after answers End = AllLinesOut sink before after answers
OutputEnds sink before after answers (BadPacket at) = AllLinesOut sink before after answers
OutputEnds sink before after answers Read = AllLinesOut sink before after answers
OutputEnds sink before after answers Write =
    CutsLastAnswer (sink.content before) (sink.content after) answers
    × Faulted (sink.frame before) (sink.frame after)
OutputEnds sink before after answers TooLong = AllLinesOut sink before after answers
OutputEnds sink before after answers Memory = after ≡ before
