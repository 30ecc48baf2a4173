-- What a standby is sent by a leader on one connection, and what it is heard to have, by the bytes
-- that came and were sent there.
use Rattle.std.specs.Prelude.{◌≡◌, ◌≢◌, ℕ, ◌+◌, ◌<◌, ◌≤◌, List, [], ◌∷◌, ◌++◌, Option, Some, IfSome, All, Contains, length, replicate, slice_get, take}
use Rattle.std.specs.List.{flat_map}
use Rattle.hose_graph.specs.Network.{Network}
use Rattle.hose_graph.specs.declared.entry.Entry.{Entry}
use Rattle.hose_journal.specs.Chain.{chain}
use Rattle.hose_store.specs.Recovery.{digest_of}
use Rattle.hose_follow.specs.Answers.{offered_text}
use Rattle.hose_follow.specs.Layout.{value_bytes}
use Rattle.hose_follow.specs.Packet.{Packet, packets_bytes}
use Rattle.hose_follow.specs.Replication.{packet_at}
use Rattle.hose_follow.specs.declared.answers.Offered.TheVariants.{Have, Want, Differs}

-- ---- packets of which a follower enters nothing, and which it answers with where it is

-- a chain value that no history has but by chance
abbrev pub no_value : List ℕ
no_value = replicate value_bytes 0

-- a packet of an epoch with such a value, whose body spells no entry
abbrev pub probe : ℕ → Packet
probe epoch = record { epoch = epoch; chain = no_value; body = 0 ∷ [] }

-- the epoch above each that a follower wants
abbrev pub asking_epoch : ℕ
asking_epoch = 4294967295

-- A follower with N entries answers this by `want N+1`.
abbrev pub ask_epoch : Packet
ask_epoch = probe asking_epoch

-- One with so many entries answers this by `differs at N OWN 00..`, where OWN is its chain value.
abbrev pub ask_value : ℕ → Packet
ask_value count = probe (count + 1)

-- A follower with N entries answers this by `have N`.
abbrev pub ask_have : Packet
ask_have = probe 0

-- what is asked of a follower that has so many entries, in this order
abbrev pub probes_of : ℕ → List Packet
probes_of count = ask_epoch ∷ ask_value count ∷ []

-- ---- what was heard

-- Bytes begin with these lines, each with its line feed.
pub record BeginWith (bytes : List ℕ) (lines : List (List ℕ)) : Type 0 where
  pub rest : List ℕ
  pub cut : bytes ≡ flat_map (λ each. each ++ 10 ∷ []) lines ++ rest
  pub plain : All (All (λ byte. byte ≢ 10)) lines

-- The follower told that it has so many entries, by `want N+1`.
abbrev pub TellsEpoch : List (List ℕ) → ℕ → Type 0
TellsEpoch lines count = Contains lines (offered_text (Want (count + 1)))

-- the value is the chain value of the first so many entries
pub record IsValueAt (network : Network) (list : List Entry) (count : ℕ) (value : List ℕ)
    : Type 0 where
  pub within : count ≤ length list
  pub is : value ≡ chain (digest_of network) (take count list)

-- The follower was compared: a line tells that it has so many entries, and the chain value that the
-- history has with as many.
pub record IsCompared (network : Network) (list : List Entry) (lines : List (List ℕ)) (count : ℕ)
    : Type 0 where
  pub own : List ℕ
  pub same : IsValueAt network list count own
  pub told : Contains lines (offered_text (Differs count own no_value))

-- The follower is heard to have so many entries: a line tells it, after one by which it was
-- compared.
pub record IsHeard (network : Network) (list : List Entry) (lines : List (List ℕ)) (count : ℕ)
    : Type 0 where
  pub earlier : List (List ℕ)
  pub later : List (List ℕ)
  pub split : lines ≡ earlier ++ later
  pub start : ℕ
  pub compared : IsCompared network list earlier start
  pub told : Contains later (offered_text (Have count))
  pub within : count ≤ length list

-- ---- what is handed out

-- After the probes of a follower that has `start` entries these packets were handed out, and so the
-- entries up to a number: each of them once, in order, from the first that the follower lacks on.
pub data Offers (network : Network) (list : List Entry) (start : ℕ) : ℕ → List Packet → Type 0 where
  probed : Offers network list start start (probes_of start)
  entry_more : {upto : ℕ} {packets : List Packet} (entry : Entry)
      → Offers network list start upto packets → slice_get list upto ≡ Some entry
      → Offers network list start (upto + 1) (packets ++ packet_at network list upto entry ∷ [])
  asked_again : {upto : ℕ} {packets : List Packet} → Offers network list start upto packets
      → Offers network list start upto (packets ++ ask_have ∷ [])

-- What was handed out since the connection's beginning: nothing; or the first probe; or the probes
-- of a follower that told how many entries it has, and once it was compared entries of the history,
-- too.
pub data AreHandedOut (network : Network) (list : List Entry) (lines : List (List ℕ))
    : List Packet → Type 0 where
  nothing_yet : AreHandedOut network list lines []
  first_probe : AreHandedOut network list lines (ask_epoch ∷ [])
  both_probes : (start : ℕ) → TellsEpoch lines start
      → AreHandedOut network list lines (probes_of start)
  with_entries : (start upto : ℕ) (packets : List Packet) → TellsEpoch lines start
      → IsCompared network list lines start → Offers network list start upto packets
      → AreHandedOut network list lines packets

-- ---- a connection

-- A connection leads a follower, where the history has these entries: by what it gave, what it was
-- sent is a beginning of what is handed out, and the follower is heard to have so many entries.
pub record Leads (network : Network) (list : List Entry) (given sent : List ℕ)
    (heard : Option ℕ) : Type 0 where
  pub lines : List (List ℕ)
  pub whole : BeginWith given lines
  pub packets : List Packet
  pub unsent : List ℕ
  pub handed : sent ++ unsent ≡ packets_bytes packets
  pub are : AreHandedOut network list lines packets
  pub has : IfSome heard (IsHeard network list lines)

-- A follower told, by what a connection gave, that it has so many entries, which are more than the
-- history has.
pub record TellsAhead (list : List Entry) (given : List ℕ) (count : ℕ) : Type 0 where
  pub lines : List (List ℕ)
  pub whole : BeginWith given lines
  pub told : TellsEpoch lines count
  pub more : length list < count

-- A follower answered, by what a connection gave, a packet that was sent behind these bytes there:
-- they are a beginning of some packets that are handed out where the history has these entries, it
-- told more lines than these packets are, and it answers each packet by one line, in order.
pub record AnswersBehind (network : Network) (list : List Entry) (given early : List ℕ) :
    Type 0 where
  pub told : List (List ℕ)
  pub first : List Packet
  pub are : AreHandedOut network list told first
  pub rest : List ℕ
  pub within : early ++ rest ≡ packets_bytes first
  pub lines : List (List ℕ)
  pub whole : BeginWith given lines
  pub more : length first < length lines
