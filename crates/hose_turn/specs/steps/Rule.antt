-- What holds of the table between any two steps.
use Rattle.std.specs.Prelude.{◌≡◌, ◌⊎◌, ℕ, ◌+◌, ◌%◌, ◌^◌, ◌<◌, List, [], ◌∷◌, slice_index, Option, None}
use Rattle.atomic_table.specs.Table.{State, opening}
use Rattle.atomic_table.specs.Seated.{TableId}
use Rattle.hose_graph.specs.declared.entry.Entry.{Entry}
use Rattle.hose_turn.specs.declared.view.View.{View}
use Rattle.hose_turn.specs.declared.view.Origin.{Origin}
use Rattle.hose_turn.specs.declared.view.Tried.{Tried}
use Rattle.hose_turn.specs.steps.Views.{unborn}
use Rattle.hose_turn.specs.steps.Line.{IsTicketQueue}
use Rattle.hose_turn.specs.steps.History.{IsHistory}
use Rattle.hose_turn.specs.steps.Faults.{IsTally}
use Rattle.hose_turn.specs.steps.Tries.{AreTries}

-- The table has three words and one slot.
abbrev pub IsSized : TableId → Type 0
IsSized table = (table.words ≡ 3) × (table.slots ≡ 1)

-- The table has no value yet, and its first ticket is drawn.
abbrev pub HasNoValue : {S : Type 0} → State (Option S) View → Type 0
HasNoValue {S} state =
    let words : ℕ → List ℕ = λ ticket. 0 ∷ (ticket + 1) % 2 ^ 64 ∷ ticket ∷ [] in
    (ticket : ℕ) × (ticket < 2 ^ 64)
    × (state ≡ opening {S = Option S} (words ticket) (None ∷ []) unborn)

module _ {S : Type 0} (stands : Origin → List Entry → List Tried → S → Type 0) (faults : S → ℕ)
  where
    -- There is one history. The value in the slot stands for it and for what was tried, and `count`
    -- is its count of faults.
    pub record HasOneHistory (state : State (Option S) View) : Type 0 where
      pub origin : Origin
      pub history : List Entry
      pub tries : List Tried
      pub count : ℕ
      pub line : IsTicketQueue
          (λ value. stands origin history tries value × (faults value ≡ count)) state
      pub known : IsHistory origin history (slice_index state.words 0) state.views
      pub tally : IsTally count state.views
      pub noted : AreTries tries state.views

    -- what holds of the table between any two steps
    abbrev pub RuleHolds : State (Option S) View → Type 0
    RuleHolds state = HasNoValue state ⊎ HasOneHistory state
