-- A host and a follower at the other end of its link, in one time.
use Rattle.std.specs.Prelude.{◌≡◌, ◌≢◌, ℕ, ◌-◌, ◌^◌, Bool, true, false, ⊤, if◌then◌else◌, ◌<◌, List, [], ◌∷◌, ◌++◌, length, All, Option, None, Some, option_map}
use Rattle.std.specs.List.{fold}
use mathlib.Core.List.{IsPrefix}
use Rattle.hose_graph.specs.Network.{Network}
use Rattle.hose_graph.specs.declared.entry.Entry.{Entry}
use Rattle.hose_disk.specs.declared.disk.Disk.{Ghosts}
use Rattle.hose_store.specs.steps.Store.{HasHistory, KeptStore}
use Rattle.hose_follow.specs.Answers.{offered_texts}
use Rattle.hose_follow.specs.Packet.{IsPacket, Packet, packets_bytes}
use Rattle.hose_follow.specs.steps.Offering.{IsOffered}
use Rattle.hose_follow.specs.steps.Replication.{IsReopened, MayBeLeft, Replication}
use Rattle.hose_follow.specs.declared.answers.Offered.{Offered}
use Rattle.hose_net.specs.Happening.{Came, Closed, Gave, Got, Happening, Late, Left, Linked, Opened, Refused, Sent, Stopped, Took}
use Rattle.hose_net.specs.Story.{Answers, Exchange, Happens, Holds, Hosts, Link, Step, Terms, exchanges, hold_in, life, link_in, links, no_link, texts_of}
use Rattle.hose_net.specs.declared.hold.Hold.{Hold}
use Rattle.hose_net.specs.declared.hold.Hold.TheVariants.{Alone, Upto}
use Rattle.hose_clerk.specs.HostLines.{HostLine, SaysAt}
use Rattle.hose_clerk.specs.HostReplies.{host_text}
use Rattle.hose_clerk.specs.Hosting.{AreHostSteps, HostState, IsAheadBy, IsHostStep, LeadsBy, host_from}
use Rattle.hose_clerk.specs.declared.doors.DoorRule.{DoorRule}
use Rattle.hose_clerk.specs.declared.replies.HostReply.{HostReply}
use Rattle.hose_pair.specs.steps.Written.{IsWritten}

-- ---- a host

-- what a host is about: what a call on its network does, and what is shown to one that sends bytes;
-- its network, the rules of its doors, the path of its standby, whether it may go on alone, and
-- whether each reply waits for an answer of the standby behind its line
pub record About (N B : Type 0) : Type 1 where
  pub did : N → List Happening → N → Type 0
  pub saw : N → B → N → Type 0
  pub network : Network
  pub rules : List DoorRule
  pub standby : Option (List ℕ)
  pub may_be_alone : Bool
  pub required : Bool

-- what a host is about, of its parts
abbrev pub about_of : {N B : Type 0} → (N → List Happening → N → Type 0) → (N → B → N → Type 0)
    → Network → List DoorRule → Option (List ℕ) → Bool → Bool → About N B
about_of did saw network rules standby may_be_alone required = record {
  did = did;
  saw = saw;
  network = network;
  rules = rules;
  standby = standby;
  may_be_alone = may_be_alone;
  required = required;
}

-- The terms of a host that began at a history. What is kept of its lines is left open: a story of
-- which more is known of that is one of these, too.
abbrev pub terms_of : {N B : Type 0} → About N B → List Entry → Terms N B HostLine HostReply
terms_of about since = record {
  did = about.did;
  saw = about.saw;
  stands = λ exchanges kept. ⊤;
  says = SaysAt about.network about.rules;
  text = host_text about.network;
  standby = about.standby;
  may_be_alone = about.may_be_alone;
  leads = LeadsBy about.network about.required since;
  is_ahead = IsAheadBy about.network about.required since;
}

-- a host that began at a history has this story
abbrev pub HasStory : {N B : Type 0} → About N B → List Entry → List (Step HostLine HostReply)
    → Type 0
HasStory {N} about since story = (first now : N) × Hosts (terms_of about since) first story now

-- where a host is after a step of its story
abbrev pub GoesTo : Network → Bool → Step HostLine HostReply → HostState → HostState → Type 0
GoesTo network required (Happens happening) old new = new ≡ old
GoesTo network required (Answers exchange) old new = IsHostStep network required exchange old new
GoesTo network required (Holds hold) old new = new ≡ old

-- ---- a connection between them

-- What a connection carried: the packets that the follower was offered are a beginning of what the
-- host sent there, and what came from there is a beginning of the lines of the answers to them.
pub record IsCarried (link : Link) (packets : List Packet) (said : List Offered) : Type 0 where
  pub are : All IsPacket packets
  pub unread : List ℕ
  pub got : packets_bytes packets ++ unread ≡ link.sent
  pub written : All IsWritten said
  pub untold : List ℕ
  pub gave : link.given ++ untold ≡ offered_texts said

-- these packets are on their way behind those that were offered
pub record AreComing (link : Link) (packets coming : List Packet) : Type 0 where
  pub are : All IsPacket (packets ++ coming)
  pub unread : List ℕ
  pub got : packets_bytes (packets ++ coming) ++ unread ≡ link.sent

-- ---- both

-- A host's present process and a follower: the history that the process began with, its story, and
-- where it is; the follower's connection, whether that is the host's link still, and whether what
-- was last heard there is how replies are held; the follower's store, the packets that it was
-- offered by this connection, and its answers to them.
pub record Standing (D : Type 0) : Type 0 where
  pub since : List Entry
  pub story : List (Step HostLine HostReply)
  pub host : HostState
  pub link : Link
  pub is_link : Bool
  pub decides : Bool
  pub store : KeptStore D
  pub packets : List Packet
  pub said : List Offered

-- the host's link is opened
abbrev pub opens : {L R : Type 0} → Step L R → Bool
opens (Happens (Linked (Opened path))) = true
opens step = false

-- whether a line was answered since the host's link was opened last, where one was opened, after a
-- step
abbrev pub served_after : {L R : Type 0} → Option Bool → Step L R → Option Bool
served_after was (Happens (Came door place)) = was
served_after was (Happens (Got place bytes)) = was
served_after was (Happens (Sent place bytes)) = was
served_after was (Happens (Refused place)) = was
served_after was (Happens (Left place)) = was
served_after was (Happens (Linked (Opened path))) = Some false
served_after was (Happens (Linked (Gave bytes))) = was
served_after was (Happens (Linked (Took bytes))) = was
served_after was (Happens (Linked Closed)) = was
served_after was (Happens (Linked Late)) = was
served_after was (Happens Stopped) = was
served_after was (Answers exchange) = option_map (λ served. true) was
served_after was (Holds hold) = was

-- and after a story
abbrev pub served_in : {L R : Type 0} → List (Step L R) → Option Bool
served_in story = fold served_after None story

-- how replies are held is what was heard by this connection, where it is how they are held now
abbrev pub decides_by : Bool → Hold → Bool
decides_by is_link Alone = false
decides_by is_link (Upto count) = is_link

-- and after a step
abbrev pub decides_after : {L R : Type 0} → Bool → Bool → Step L R → Bool
decides_after is_link decides (Happens happening) = decides
decides_after is_link decides (Answers exchange) = decides
decides_after is_link decides (Holds hold) = decides_by is_link hold

-- both after a step of the host's story, which leaves the follower's connection as it was where it
-- is the host's link no more
abbrev pub stepped : {D : Type 0} → Standing D → Step HostLine HostReply → HostState → Standing D
stepped was step host = record was {
  story = was.story ++ step ∷ [];
  host = host;
  link = if opens step then was.link else if was.is_link then links was.link step else was.link;
  is_link = if opens step then false else was.is_link;
  decides = decides_after was.is_link was.decides step;
}

-- both after the follower was offered a packet
abbrev pub offered : {D : Type 0} → Standing D → Packet → Offered → KeptStore D → Standing D
offered was packet answer left = record was {
  store = left;
  packets = was.packets ++ packet ∷ [];
  said = was.said ++ answer ∷ [];
}

-- both after the follower was opened anew, which has no connection yet
abbrev pub reopened : {D : Type 0} → Standing D → KeptStore D → Standing D
reopened was store = record was {
  link = no_link;
  is_link = false;
  store = store;
  packets = [];
  said = [];
}

-- both after the follower, which was offered nothing since it was opened, has the host's link
abbrev pub joined : {D : Type 0} → Standing D → Standing D
joined was = record was { link = link_in was.story; is_link = true }

-- both after a host was started anew
abbrev pub restarted : {D : Type 0} → Standing D → List Entry → Standing D
restarted was since = record was {
  since = since;
  story = [];
  host = host_from since;
  is_link = false;
  decides = false;
}

-- the follower, as a leader's follower to which these packets may come
abbrev pub follower_at : {D : Type 0} → Standing D → List Packet → Replication D
follower_at was coming = record { leader = []; sent = coming; store = was.store; told = 0 }

-- the image is one that a stop of the follower may leave, at rest, or at any moment within an offer
-- of a packet that is on its way, an orderly closing, or an opening
abbrev pub MayLeave : {D : Type 0} → Ghosts D → Network → Standing D → List ℕ → Type 0
MayLeave disk network was image = (coming : List Packet) × AreComing was.link was.packets coming
    × MayBeLeft disk network (follower_at was coming) image

-- What may happen to a host and a follower from one moment on. At each moment the story so far is
-- one of the host, and the follower's connection carries what was put into it.
pub data Goes {N B D : Type 0} (about : About N B) (disk : Ghosts D) (first : Standing D)
    : Standing D → Type 0 where
  began : Goes about disk first first
  -- a step of the host's story
  hosts : {was : Standing D} (step : Step HostLine HostReply) (host : HostState)
      → Goes about disk first was → GoesTo about.network about.required step was.host host
      → HasStory about was.since (was.story ++ step ∷ [])
      → IsCarried (stepped was step host).link was.packets was.said
      → Goes about disk first (stepped was step host)
  -- the follower is offered a packet, and answers so
  offers : {was : Standing D} (packet : Packet) (answer : Offered) (left : KeptStore D)
      → Goes about disk first was → IsOffered disk was.store packet answer left
      → IsCarried was.link (was.packets ++ packet ∷ []) (was.said ++ answer ∷ [])
      → Goes about disk first (offered was packet answer left)
  -- the follower, which was stopped or closed its store, opens what its disk has
  reopens : {was : Standing D} (image : List ℕ) (store : KeptStore D)
      → Goes about disk first was → MayLeave disk about.network was image
      → IsReopened disk about.network image store → Goes about disk first (reopened was store)
  -- the follower, which was offered nothing yet, has the host's link
  joins : {was : Standing D} → Goes about disk first was → was.packets ≡ [] → was.said ≡ []
      → IsCarried (link_in was.story) [] [] → Goes about disk first (joined was)
  -- the host is started anew, on a history that begins with the one that it had
  restarts : {was : Standing D} (since : List Entry) → Goes about disk first was
      → IsPrefix was.host.history since → Goes about disk first (restarted was since)

-- A follower that was just opened, and has this history, whatever it is, and no connection yet: so
-- nothing was heard of it.
pub record IsFresh {N B D : Type 0} (about : About N B) (disk : Ghosts D) (own : List Entry)
    (start : Standing D) : Type 0 where
  pub story : HasStory about start.since start.story
  pub steps : AreHostSteps about.network about.required (exchanges start.story)
      (host_from start.since) start.host
  pub is_network : start.store.ledger.network ≡ about.network
  pub has : HasHistory disk start.store own None
  pub link : start.link ≡ no_link
  pub is_link : start.is_link ≡ false
  pub decides : start.decides ≡ false
  pub packets : start.packets ≡ []
  pub said : start.said ≡ []

-- A host that may go on alone is not alone, and answered a line since its link was opened, which
-- the follower has still.
pub record ServesAtLink {N B D : Type 0} (about : About N B) (now : Standing D) : Type 0 where
  pub may : about.may_be_alone ≡ true
  pub is_link : now.is_link ≡ true
  pub held : hold_in now.story ≢ Alone
  pub served : served_in now.story ≡ Some true

-- ---- replies

-- A byte of a reply was sent to who was at a place by then: more bytes than the texts of the
-- replies to earlier lines have.
pub record IsBegun (network : Network) (place : ℕ) (story : List (Step HostLine HostReply))
    (exchange : Exchange HostLine HostReply) : Type 0 where
  pub before : List (Exchange HostLine HostReply)
  pub after : List (Exchange HostLine HostReply)
  pub own : (life place story).own ≡ before ++ exchange ∷ after
  pub some : length (texts_of (host_text network) before) < length (life place story).sent

-- A follower began, and since then a host came to where how replies are held is what was last heard
-- of it. By then a byte of the reply to a line was sent, this moment or at an earlier one of the
-- host's present process, which has answered fewer lines than a count holds; and where the line was
-- answered, the host was at this state.
pub record WasTold {N B D : Type 0} (about : About N B) (disk : Ghosts D) (own : List Entry)
    (start told : Standing D) (exchange : Exchange HostLine HostReply) (state : HostState) :
    Type 0 where
  pub fresh : IsFresh about disk own start
  pub goes : Goes about disk start told
  pub decides : told.decides ≡ true
  pub early : List (Step HostLine HostReply)
  pub later : List (Step HostLine HostReply)
  pub split : told.story ≡ early ++ later
  pub place : ℕ
  pub begun : IsBegun about.network place early exchange
  pub before : List (Exchange HostLine HostReply)
  pub after : List (Exchange HostLine HostReply)
  pub there : exchanges told.story ≡ before ++ exchange ∷ after
  pub few : length (exchanges told.story) < 2 ^ 64 - 1
  pub steps : AreHostSteps about.network about.required (before ++ exchange ∷ [])
      (host_from told.since) state

-- A line was answered by the host's present process, behind these, and after that the follower was
-- offered a packet by the host's link, and answered.
pub record AnsweredSince {N B D : Type 0} (about : About N B) (disk : Ghosts D)
    (start told : Standing D) (before : List (Exchange HostLine HostReply))
    (exchange : Exchange HostLine HostReply) : Type 0 where
  pub was : Standing D
  pub goes : Goes about disk start was
  pub same : was.since ≡ told.since
  pub grown : IsPrefix was.story told.story
  pub after : List (Exchange HostLine HostReply)
  pub line : exchanges was.story ≡ before ++ exchange ∷ after
  pub is_link : was.is_link ≡ true
  pub packet : Packet
  pub answer : Offered
  pub left : KeptStore D
  pub later : Goes about disk (offered was packet answer left) told
