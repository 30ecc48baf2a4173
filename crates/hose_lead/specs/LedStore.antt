-- A store with the packets of its last entries, as contracts see it.
use Rattle.std.specs.Prelude.{ℕ, List}
use Rattle.hose_store.specs.Store.{KeptStore}

-- the packet of an entry, and the chain value of those before it
pub record KeptPacket : Type 0 where
  pub before : List ℕ
  pub bytes : List ℕ

-- the last packets of a history, how many bytes they may have, how many entries the history has,
-- and its chain value
pub record RecentState : Type 0 where
  pub kept : List KeptPacket
  pub limit : ℕ
  pub epoch : ℕ
  pub value : List ℕ

-- a store, and the last packets of its history
pub record LedState (D : Type 0) : Type 0 where
  pub store : KeptStore D
  pub recent : RecentState
