-- A leader, the packets that it sent, and a follower that is offered them in whatever order: steps
-- of proofs.
use Rattle.std.specs.Prelude.{◌≡◌, ◌⊎◌, ℕ, ◌≤◌, max, List, [], ◌∷◌, ◌++◌, length, All, Contains, Option, Some, None, IfSome, Result, slice_get, ⊤}
use mathlib.Core.List.{IsPrefix}
use Rattle.hose_io.specs.declared.Failed.{Failed}
use Rattle.hose_graph.specs.Network.{Network}
use Rattle.hose_graph.specs.declared.entry.Entry.{Entry}
use Rattle.hose_law.specs.History.{book_of, IsDecidedAt, IsSoundAt}
use Rattle.hose_codec.specs.Spelling.{IsEntry}
use Rattle.hose_disk.specs.declared.disk.Disk.{Ghosts}
use Rattle.hose_journal.specs.Moments.{LeavesOnly}
use Rattle.hose_store.specs.Opening.{IsAtOpening}
use Rattle.hose_store.specs.steps.Commit.{Closes}
use Rattle.hose_store.specs.steps.Opening.{IsOpenedOn}
use Rattle.hose_store.specs.Recovery.{IsHistoryOf}
use Rattle.hose_store.specs.steps.Store.{KeptStore, HasHistory}
use Rattle.hose_follow.specs.steps.Event.{Event, accepts, asks, offers, reopens, sends}
use Rattle.hose_follow.specs.steps.Offering.{BringsNone, IsOffered}
use Rattle.hose_follow.specs.Packet.{Packet}
use Rattle.hose_follow.specs.declared.answers.Offered.{Offered}
use Rattle.hose_follow.specs.declared.answers.Offered.TheVariants.{Have, Want, Differs, Memory, Unsound, Disk}
use Rattle.hose_follow.specs.Replication.{IsLeader, IsSentOf, packet_at}

-- The leader's list, the packets that were ever sent, the follower's store, and the greatest epoch
-- that a `have` of the follower told.
pub record Replication (D : Type 0) : Type 0 where
  pub leader : List Entry
  pub sent : List Packet
  pub store : KeptStore D
  pub told : ℕ

-- what `have` told, after an answer more
abbrev pub told_after : ℕ → Offered → ℕ
told_after told (Have n) = max told n
told_after told (Want n) = told
told_after told (Differs at own given) = told
told_after told Memory = told
told_after told (Unsound epoch) = told
told_after told (Disk at) = told

-- ---- beginnings

-- No packet was sent, and nothing was told; the follower has a beginning of the leader's list, and
-- nothing in doubt.
pub record IsBeginning {D : Type 0} (disk : Ghosts D) (network : Network) (state : Replication D) :
    Type 0 where
  pub leader : IsLeader network state.leader
  pub sent : state.sent ≡ []
  pub told : state.told ≡ 0
  pub is_network : state.store.ledger.network ≡ network
  pub own : List Entry
  pub has : HasHistory disk state.store own None
  pub begins : IsPrefix own state.leader

-- ---- stops

-- the packet was sent, or it brings no entry
abbrev pub MayArrive : {D : Type 0} → Ghosts D → Replication D → Packet → Type 0
MayArrive disk state packet =
    Contains state.sent packet ⊎ BringsNone disk state.store packet

-- What the disk of a follower that was stopped may hold: what a stop between two offers leaves, or
-- at any moment within an offer or an orderly closing; or what a stop at any moment within an
-- opening of that leaves, and so on. A disk that is opened has what was left, and no other bytes.
pub data MayBeLeft {D : Type 0} (disk : Ghosts D) (network : Network) (state : Replication D)
    : List ℕ → Type 0 where
  at_rest : {image : List ℕ} → disk.may_leave state.store.journal.disk image
      → MayBeLeft disk network state image
  within_offer : {image : List ℕ} (packet : Packet) (answer : Offered) (left : KeptStore D)
      → MayArrive disk state packet → IsOffered disk state.store packet answer left
      → disk.left_since left.journal.disk (disk.moment state.store.journal.disk) image
      → MayBeLeft disk network state image
  within_closing : {image : List ℕ} (left : D) (result : Result ⊤ Failed)
      → Closes disk state.store left result
      → disk.left_since left (disk.moment state.store.journal.disk) image
      → MayBeLeft disk network state image
  within_opening : {image more : List ℕ} (was now : D) → MayBeLeft disk network state image
      → disk.content was ≡ Some image
      → ((other : List ℕ) → disk.may_leave was other → other ≡ image)
      → LeavesOnly disk was now (IsAtOpening disk was network)
      → disk.left_since now (disk.moment was) more → MayBeLeft disk network state more

-- ---- what happens

-- a store was opened on a disk that held this image
abbrev pub IsReopened : {D : Type 0} → Ghosts D → Network → List ℕ → KeptStore D → Type 0
IsReopened {D} disk network image store =
    (was : D) × (disk.content was ≡ Some image) × IsOpenedOn disk was network store

-- An event, and what it leaves.
abbrev pub Happens : {D : Type 0} → Ghosts D → Network → Replication D → Event → Replication D
    → Type 0
Happens disk network old (accepts entry) new =
    IsEntry entry × IsSoundAt network (book_of 0 old.leader) entry
    × (new ≡ record old { leader = old.leader ++ entry ∷ [] })
Happens disk network old (sends place) new =
    (entry : Entry) × (slice_get old.leader place ≡ Some entry)
    × (new ≡ record old { sent = old.sent ++ packet_at network old.leader place entry ∷ [] })
Happens disk network old (offers packet answer) new =
    Contains old.sent packet × IsOffered disk old.store packet answer new.store
    × (new ≡ record old { store = new.store; told = told_after old.told answer })
Happens disk network old (asks packet answer) new =
    BringsNone disk old.store packet × IsOffered disk old.store packet answer new.store
    × (new ≡ record old { store = new.store; told = told_after old.told answer })
Happens disk network old (reopens image) new =
    MayBeLeft disk network old image × IsReopened disk network image new.store
    × (new ≡ record old { store = new.store })

-- events, one after another
abbrev pub Lead : {D : Type 0} → Ghosts D → Network → Replication D → List Event → Replication D
    → Type 0
Lead disk network old [] new = new ≡ old
Lead {D} disk network old (event ∷ events) new =
    (middle : Replication D) × Happens disk network old event middle
    × Lead disk network middle events new

-- each entry that a leader of this list accepts by these events is decided at the book of those
-- before it
abbrev pub AcceptsDecided : Network → List Entry → List Event → Type 0
AcceptsDecided network leader [] = ⊤
AcceptsDecided network leader (accepts entry ∷ events) =
    IsDecidedAt network (book_of 0 leader) entry
    × AcceptsDecided network (leader ++ entry ∷ []) events
AcceptsDecided network leader (sends place ∷ events) = AcceptsDecided network leader events
AcceptsDecided network leader (offers packet answer ∷ events) =
    AcceptsDecided network leader events
AcceptsDecided network leader (asks packet answer ∷ events) = AcceptsDecided network leader events
AcceptsDecided network leader (reopens image ∷ events) = AcceptsDecided network leader events

-- ---- what holds after any events

-- The follower has a beginning of the leader's list, with the entry in doubt, if there is one, and
-- without it, and in it each entry that a `have` told.
pub record IsFollowing {D : Type 0} (disk : Ghosts D) (network : Network) (state : Replication D) :
    Type 0 where
  pub leader : IsLeader network state.leader
  pub sent : All (IsSentOf network state.leader) state.sent
  pub is_network : state.store.ledger.network ≡ network
  pub own : List Entry
  pub doubt : Option Entry
  pub has : HasHistory disk state.store own doubt
  pub begins : IsPrefix own state.leader
  pub doubtful : IfSome doubt (λ entry. IsPrefix (own ++ entry ∷ []) state.leader)
  pub told : state.told ≤ length own

-- The image stands for a beginning of the leader's list that has each entry which a `have` told.
pub record IsOfLeader (network : Network) (leader : List Entry) (least : ℕ)
    (image : List ℕ) : Type 0 where
  pub list : List Entry
  pub stands : IsHistoryOf network list image
  pub begins : IsPrefix list leader
  pub told : least ≤ length list
