-- A pass that has the turn, with the value, as callers see it.
use Rattle.std.specs.Prelude.{◌≡◌, ℕ, List, [], ◌∷◌, ◌++◌}
use Rattle.hose_graph.specs.declared.entry.Entry.{Entry}
use Rattle.hose_turn.specs.declared.pass.Held.{Held}
use Rattle.hose_turn.specs.declared.view.Tried.{Tried}
use Rattle.hose_turn.specs.Known.{Known}
use Rattle.hose_turn.specs.steps.Known.{with_own_entry, with_tried, HasOwnPlaces}
use Rattle.hose_turn.specs.steps.Views.{known_of, tried_at}

module _ {S : Type 0} where
  -- what the pass knows
  abbrev pub holder : Held S → Known
  holder held = known_of held.seat.table_id held.seat.me.0

  -- the value as it is now
  abbrev pub value_of : Held S → S
  value_of held = held.value

  -- the count of faults of the value as the pass took it
  abbrev pub floor_of : Held S → ℕ
  floor_of held = held.seat.me.0.floor

  -- all that was tried until now
  abbrev pub tries_of : Held S → List Tried
  tries_of held = held.seat.me.0.all_tried

  -- the pass counted the entry as its own, and its value stays
  pub record HasCounted (old new : Held S) (entry : Entry) : Type 0 where
    pub counted : holder new ≡ with_own_entry (holder old) entry
    pub places : HasOwnPlaces (holder new)
    pub value : value_of new ≡ value_of old
    pub floor : floor_of new ≡ floor_of old
    pub tries : tries_of new ≡ tries_of old

  -- the pass tried the entry where it is, and the value, which stays, did not take it
  pub record HasTried (old new : Held S) (entry : Entry) : Type 0 where
    pub tried : holder new ≡ with_tried (holder old) entry
    pub tries : tries_of new ≡ tries_of old ++ tried_at (holder old).seen entry ∷ []
    pub value : value_of new ≡ value_of old
    pub floor : floor_of new ≡ floor_of old
