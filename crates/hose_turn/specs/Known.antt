-- What a pass knows, as callers see it.
use Rattle.std.specs.Prelude.{ℕ, List}
pub use Rattle.atomic_table.specs.Seated.{TableId}
use Rattle.hose_graph.specs.declared.entry.Entry.{Entry}
use Rattle.hose_turn.specs.declared.view.Origin.{Origin}
use Rattle.hose_turn.specs.declared.view.Tried.{Tried}

-- the lock that the pass is of, what was fixed when it was made, the pass's share, the beginning of
-- the history that it has seen, the places of its own entries, what it tried and was not taken, and
-- its number of faults
pub record Known : Type 0 where
  pub turn : TableId
  pub origin : Origin
  pub share : ℕ
  pub seen : List Entry
  pub own : List ℕ
  pub tried : List Tried
  pub faults : ℕ
