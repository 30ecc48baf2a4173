-- Packets that bring no entry.
use Rattle.std.proofs.Common.{◌≡◌, ℕ, ◌≤◌, List, [], ◌∷◌, get_or, ap, inl, inr, arith}
use Rattle.hose_graph.specs.declared.entry.Entry.{Entry}
use Rattle.hose_graph.specs.declared.entry.Entry.TheVariants.{Admit, Release, Down, Up}
use Rattle.hose_codec.specs.Spelling.{IsSpelling, spelling}
use Rattle.hose_disk.specs.declared.disk.Disk.{Ghosts}
use Rattle.hose_store.specs.steps.Store.{KeptStore}
use Rattle.hose_follow.specs.steps.Offering.{BringsNone, IsOffered, epoch_of}
use Rattle.hose_follow.specs.steps.Replication.{told_after}
use Rattle.hose_follow.specs.Packet.{Packet}
use Rattle.hose_follow.specs.declared.answers.Offered.{Offered}
use Rattle.hose_follow.specs.declared.answers.Offered.TheVariants.{Have, Want, Differs, Memory, Unsound, Disk}

-- an entry's spelling begins with its kind, which is not 0
kind_first : (entry : Entry) → 1 ≤ get_or (spelling entry) 0 0
kind_first (Admit customer hose amounts) = omega arith
kind_first (Release customer id) = omega arith
kind_first (Down link) = omega arith
kind_first (Up link) = omega arith

pub not_zero : (entry : Entry) → ¬ IsSpelling entry (0 ∷ [])
not_zero entry spells = omega (arith, kind_first entry, ap (λ (l : List ℕ). get_or l 0 0) spells.spelled)

module _ {D : Type 0} (disk : Ghosts D) where
  pub spells_none : (store : KeptStore D) (packet : Packet) → ((entry : Entry) → ¬ IsSpelling entry packet.body) → BringsNone disk store packet
  spells_none store packet none entry due spells = none entry spells

  -- the store is left as it was
  pub asked_same : (store left : KeptStore D) (packet : Packet) (answer : Offered) → BringsNone disk store packet → IsOffered disk store packet answer left → left ≡ store
  asked_same store left packet (Have n) none (inl past) = past.same
  asked_same store left packet (Have n) none (inr (entry, _, enters)) = absurd (none entry enters.due enters.brings.spells)
  asked_same store left packet (Want n) none offered = offered.2
  asked_same store left packet (Differs at own given) none offered = offered.1
  asked_same store left packet Memory none offered = offered.2
  asked_same store left packet (Unsound epoch) none offered = offered.3
  asked_same store left packet (Disk at) none (entry, _, enters) = absurd (none entry enters.due enters.brings.spells)

  -- no more is told than it has
  pub asked_told : (store left : KeptStore D) (packet : Packet) (answer : Offered) (told most : ℕ) → BringsNone disk store packet → IsOffered disk store packet answer left → told ≤ most → epoch_of store ≤ most → told_after told answer ≤ most
  asked_told store left packet (Have n) told most none (inl past) low own = grind (arith, past.own, low, own)
  asked_told store left packet (Have n) told most none (inr (entry, _, enters)) low own = absurd (none entry enters.due enters.brings.spells)
  asked_told store left packet (Want n) told most none offered low own = low
  asked_told store left packet (Differs at mine given) told most none offered low own = low
  asked_told store left packet Memory told most none offered low own = low
  asked_told store left packet (Unsound epoch) told most none offered low own = low
  asked_told store left packet (Disk at) told most none offered low own = low
