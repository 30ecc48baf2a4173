-- A follower: what it reads, what it answers on, and its store: steps of proofs.
use Rattle.hose_io.specs.declared.sink.Sink.{Ghosts as SinkGhosts}
use Rattle.hose_io.specs.declared.source.Source.{Ghosts as SourceGhosts}
use Rattle.hose_disk.specs.declared.disk.Disk.{Ghosts as DiskGhosts}
use Rattle.hose_store.specs.steps.Store.{KeptStore}

-- what a follower reads, what it answers on, and its store
pub record Follower (S O D : Type 0) : Type 0 where
  pub source : S
  pub sink : O
  pub store : KeptStore D

-- what a follower reads, what it answers on, and its store, as one
abbrev pub follower : {S O D : Type 0} → S → O → KeptStore D → Follower S O D
follower source sink store = record { source = source; sink = sink; store = store }

-- what each part of a follower tells
pub record FollowerTellings (S O D : Type 0) : Type 1 where
  pub source : SourceGhosts S
  pub sink : SinkGhosts O
  pub disk : DiskGhosts D

-- what each part of a follower tells, of its parts
abbrev pub follower_tellings : {S O D : Type 0} → SourceGhosts S → SinkGhosts O → DiskGhosts D
    → FollowerTellings S O D
follower_tellings source sink disk = record { source = source; sink = sink; disk = disk }
