-- What a follower answers to a packet that is offered to it, and what that leaves of its store.
use Rattle.std.specs.Prelude.{◌≡◌, ◌≢◌, ◌⊎◌, ℕ, ◌+◌, ◌<◌, ◌≤◌, List, [], ◌∷◌, ◌++◌, Option}
use Rattle.hose_graph.specs.declared.entry.Entry.{Entry}
use Rattle.hose_law.specs.History.{IsSoundAt}
use Rattle.hose_book.specs.steps.Commit.{IsMet}
use Rattle.hose_book.specs.Ledger.{Ledger}
use Rattle.hose_book.specs.declared.books.Committed.{Committed}
use Rattle.hose_book.specs.declared.books.Committed.TheVariants as committed
use Rattle.hose_codec.specs.Spelling.{IsSpelling}
use Rattle.hose_disk.specs.Disk.{object_frame}
use Rattle.hose_disk.specs.declared.disk.Disk.{Ghosts}
use Rattle.hose_journal.specs.Chain.{chain}
use Rattle.hose_store.specs.steps.Commit.{Went}
use Rattle.hose_store.specs.Recovery.{digest_of}
use Rattle.hose_store.specs.steps.Store.{KeptStore, HasHistory}
use Rattle.hose_follow.specs.Packet.{Packet}
use Rattle.hose_follow.specs.declared.answers.Offered.{Offered}
use Rattle.hose_follow.specs.declared.answers.Offered.TheVariants.{Have, Want, Differs, Memory, Unsound, Disk}

-- the epoch of a follower
abbrev pub epoch_of : {D : Type 0} → KeptStore D → ℕ
epoch_of store = store.ledger.book.epoch

-- the value is the chain value of the history that the store has
abbrev pub IsChainOf : {D : Type 0} → Ghosts D → KeptStore D → List ℕ → Type 0
IsChainOf disk store value = (history : List Entry) (doubt : Option Entry) →
    HasHistory disk store history doubt → value ≡ chain (digest_of store.ledger.network) history

-- The packet is due: its epoch is the next one, and its chain value is the follower's.
pub record IsDue {D : Type 0} (disk : Ghosts D) (store : KeptStore D) (packet : Packet) :
    Type 0 where
  pub epoch : packet.epoch ≡ epoch_of store + 1
  pub chain : IsChainOf disk store packet.chain

-- the packet's body spells this entry, which is sound at the book
pub record Brings (ledger : Ledger) (packet : Packet) (entry : Entry) : Type 0 where
  pub spells : IsSpelling entry packet.body
  pub sound : IsSoundAt ledger.network ledger.book entry

-- The packet brings no entry: it is not due, or its body spells none.
abbrev pub BringsNone : {D : Type 0} → Ghosts D → KeptStore D → Packet → Type 0
BringsNone disk store packet =
    (entry : Entry) → IsDue disk store packet → ¬ IsSpelling entry packet.body

-- The packet is due and brings this entry, of which a commit came to this.
pub record Enters {D : Type 0} (disk : Ghosts D) (old : KeptStore D) (packet : Packet)
    (entry : Entry) (result : Committed) (new : KeptStore D) : Type 0 where
  pub due : IsDue disk old packet
  pub brings : Brings old.ledger packet entry
  pub went : Went disk old entry result new
  pub met : IsMet (object_frame (disk.frame old.journal.disk)) result
      (object_frame (disk.frame new.journal.disk))

-- the packet was passed: its epoch is not above the follower's
pub record IsPast {D : Type 0} (old : KeptStore D) (packet : Packet) (n : ℕ) (new : KeptStore D) :
    Type 0 where
  pub past : packet.epoch ≤ epoch_of old
  pub own : n ≡ epoch_of old
  pub same : new ≡ old

-- the packet is due with a chain value that is not the follower's
pub record HasOtherChain {D : Type 0} (disk : Ghosts D) (old : KeptStore D) (packet : Packet)
    (n : ℕ) (mine theirs : List ℕ) : Type 0 where
  pub epoch : packet.epoch ≡ epoch_of old + 1
  pub at : n ≡ epoch_of old
  pub own : IsChainOf disk old mine
  pub given : theirs ≡ packet.chain
  pub differs : theirs ≢ mine

-- The answer to a packet, and the store that it leaves. Only an entry that was committed, or whose
-- commit failed, changes the store; else the disk is not called.
abbrev pub IsOffered : {D : Type 0} → Ghosts D → KeptStore D → Packet → Offered → KeptStore D
    → Type 0
IsOffered disk old packet (Have n) new = IsPast old packet n new
    ⊎ ((entry : Entry) × (n ≡ packet.epoch) × Enters disk old packet entry committed.Done new)
IsOffered disk old packet (Want n) new =
    (epoch_of old + 1 < packet.epoch) × (n ≡ epoch_of old + 1) × (new ≡ old)
IsOffered disk old packet (Differs at own given) new =
    HasOtherChain disk old packet at own given × (new ≡ old)
-- want of memory, which only a body that is a spelling has
IsOffered disk old packet Memory new = IsDue disk old packet
    × ((entry : Entry) × IsSpelling entry packet.body) × (new ≡ old)
IsOffered disk old packet (Unsound epoch) new = IsDue disk old packet
    × ((entry : Entry) → ¬ Brings old.ledger packet entry) × (epoch ≡ packet.epoch) × (new ≡ old)
IsOffered disk old packet (Disk at) new =
    (entry : Entry) × (at ≡ epoch_of old) × Enters disk old packet entry committed.Disk new

-- Packets were offered one after another, each to the store that the one before it left: the
-- answers, and the store that the last one leaves.
pub data AreOffered {D : Type 0} (disk : Ghosts D) (first : KeptStore D) : List Packet
    → List Offered → KeptStore D → Type 0 where
  none_yet : AreOffered disk first [] [] first
  packet_more : {packets : List Packet} {answers : List Offered} {middle now : KeptStore D}
      (packet : Packet) (answer : Offered) → AreOffered disk first packets answers middle
      → IsOffered disk middle packet answer now
      → AreOffered disk first (packets ++ packet ∷ []) (answers ++ answer ∷ []) now
