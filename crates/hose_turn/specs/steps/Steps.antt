-- What each step tells the pass that makes it: of the step, the seat before, the number found and
-- the seat after.
use Rattle.std.specs.Prelude.{◌≡◌, ◌≢◌, ◌⊎◌, ℕ, ◌%◌, ◌^◌, List, [], ◌∷◌, length, Option, Some, None}
use mathlib.Core.Option.{some}
use mathlib.Core.List.{IsPrefix}
use Rattle.atomic_table.specs.Table.{Me, Step}
use Rattle.hose_graph.specs.declared.entry.Entry.{Entry}
use Rattle.hose_turn.specs.declared.view.View.{View}
use Rattle.hose_turn.specs.declared.view.Origin.{Origin}
use Rattle.hose_turn.specs.declared.view.Tried.{Tried}
use Rattle.hose_turn.specs.steps.Places.{HasSomePlaces}
use Rattle.hose_turn.specs.steps.Views.{opener, drew, turned, counted, failed, passed_on, settled}

-- what a step tells
abbrev StepTells : Type 0 → Type 1
StepTells S = Step (Option S) → Me (Option S) View → ℕ → Me (Option S) View → Type 0

module _ {S : Type 0} (stands : Origin → List Entry → List Tried → S → Type 0) (faults : S → ℕ)
  where
    -- The first pass has the turn, and its origin is one with which the announced value stands for
    -- its first list.
    abbrev pub OpensLock : StepTells S
    OpensLock step before found after =
        (value : S) → step.said ≡ some (Some value)
        → (origin : Origin) × (ticket : ℕ) × stands origin origin.since [] value
        × (after ≡ (opener origin ticket (faults value), (0, None) ∷ before.1))

    -- Where the ticket is served, the pass has the turn, has seen the history, and has taken the
    -- value, which stands for it. Else nothing changed.
    abbrev pub Looks : StepTells S
    Looks step before found after =
        (ticket : ℕ) → before.0.ticket ≡ Some ticket
        → (found ≡ ticket % 2 ^ 64
        → (value : S) × (history : List Entry) × (tries : List Tried)
        × IsPrefix before.0.seen history × IsPrefix before.0.origin.since history
        × stands before.0.origin history tries value
        × (after ≡ (turned before.0 history tries (faults value), (0, Some value) ∷ before.1)))
        × (found ≢ ticket % 2 ^ 64 → after ≡ before)

module _ {S : Type 0} (faults : S → ℕ) (rise : ℕ → ℕ → ℕ) where
  -- The value went back to its slot, and the turn to the next ticket.
  abbrev pub PassesOn : StepTells S
  PassesOn step before found after =
      (value : S) → before.1 ≡ (0, Some value) ∷ []
      → after ≡ (passed_on before.0 (rise before.0.floor (faults value)), [])

module _ {S : Type 0} where
  -- The pass has the ticket that was found.
  abbrev pub Draws : StepTells S
  Draws step before found after =
      (ticket : ℕ) × (found ≡ ticket % 2 ^ 64) × (after ≡ (drew before.0 ticket, before.1))

  -- The history has the entry, which the pass has seen and which is its own.
  abbrev pub Counts : Entry → StepTells S
  Counts entry step before found after = after ≡ (counted before.0 entry, before.1)

  -- The pass tried the entry, which was not taken.
  abbrev pub Tries : Entry → StepTells S
  Tries entry step before found after = after ≡ (failed before.0 entry, before.1)

  -- Of what the pass had seen and what it was told, one begins with the other and is what it has
  -- seen now. The pass's own places are some of those of a history, each once.
  abbrev pub Settles : StepTells S
  Settles step before found after =
      (longer : List Entry) × (after ≡ (settled before.0 longer, before.1))
      × IsPrefix before.0.seen longer × IsPrefix before.0.told longer
      × ((longer ≡ before.0.seen) ⊎ (longer ≡ before.0.told))
      × ((last : ℕ) × HasSomePlaces (length before.0.origin.since) last before.0.own)
