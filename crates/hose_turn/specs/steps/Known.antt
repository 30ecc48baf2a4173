-- What a pass knows, as callers see it: steps of proofs.
use Rattle.std.specs.Prelude.{◌≡◌, ◌⊎◌, ◌+◌, List, [], ◌∷◌, ◌++◌, length, Contains}
use mathlib.Core.List.{IsPrefix}
use Rattle.atomic_table.specs.Seated.{TableId}
use Rattle.hose_graph.specs.declared.entry.Entry.{Entry}
use Rattle.hose_turn.specs.declared.view.Origin.{Origin}
use Rattle.hose_turn.specs.declared.view.Tried.{Tried}
use Rattle.hose_turn.specs.steps.Limits.{all_shares}
use Rattle.hose_turn.specs.Places.{HasPlaces}
use Rattle.hose_turn.specs.steps.Places.{AreApart, HasSomePlaces}
use Rattle.hose_turn.specs.Known.{Known}

-- what the first pass knows
abbrev pub first_known : TableId → Origin → Known
first_known turn origin = record {
  turn = turn;
  origin = origin;
  share = all_shares;
  seen = origin.since;
  own = [];
  tried = [];
  faults = 0;
}

-- What a pass knows once it counted an entry: it has seen the entry, whose place is the number of
-- entries before it.
abbrev pub with_own_entry : Known → Entry → Known
with_own_entry known entry = record known {
  seen = known.seen ++ entry ∷ [];
  own = known.own ++ length known.seen ∷ [];
}

-- What a pass knows once it tried an entry at the end of what it has seen, which was not taken.
abbrev pub with_tried : Known → Entry → Known
with_tried known entry = record known {
  tried = known.tried ++ (record { place = length known.seen; entry = entry }) ∷ [];
}

-- Each of the pass's own places is that of an entry after the first list that the pass has seen,
-- and none stands twice.
abbrev pub HasOwnPlaces : Known → Type 0
HasOwnPlaces known =
    HasSomePlaces (length known.origin.since) (length known.seen) known.own

-- A pass took in another one: it has the shares, places, tries and faults of both, and has seen the
-- longer of the two lists.
pub record HasJoined (old other new : Known) : Type 0 where
  pub same : (new.turn ≡ old.turn) × (new.origin ≡ old.origin)
  pub share : new.share ≡ old.share + other.share
  pub own : new.own ≡ old.own ++ other.own
  pub tried : new.tried ≡ old.tried ++ other.tried
  pub apart : AreApart old.own other.own
  pub places : HasOwnPlaces new
  pub faults : new.faults ≡ old.faults + other.faults
  pub one : (new.seen ≡ old.seen) ⊎ (new.seen ≡ other.seen)
  pub seen : IsPrefix old.seen new.seen
  pub told : IsPrefix other.seen new.seen

-- The value stands for the history, which begins with the first list and with what the pass has
-- seen. Each entry after the first list is the pass's own, and all that was tried is, too.
pub record HasWholeHistory {S : Type 0}
    (stands : Origin → List Entry → List Tried → S → Type 0) (pass : Known) (history : List Entry)
    (tries : List Tried) (value : S) : Type 0 where
  pub stood : stands pass.origin history tries value
  pub since : IsPrefix pass.origin.since history
  pub seen : IsPrefix pass.seen history
  pub own : HasPlaces (length pass.origin.since) (length history) pass.own
  pub tried : (one : Tried) → Contains tries one → Contains pass.tried one
