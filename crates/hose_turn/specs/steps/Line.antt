-- The line of passes: shares, tickets, and who has the turn. Tickets are counted without end; the
-- words have them modulo 2^64.
use Rattle.std.specs.Prelude.{◌≡◌, ℕ, ◌+◌, ◌%◌, ◌^◌, ◌<◌, ◌≤◌, Bool, true, false, [], ◌∷◌, length, slice_index, Option, Some, None}
use Rattle.std.specs.List.{sum_by}
use mathlib.Core.Option.{some}
use lib.ListN.{get_elem?}
use Rattle.atomic_table.specs.Table.{State}
use Rattle.hose_turn.specs.declared.view.View.{View}
use Rattle.hose_turn.specs.steps.Limits.{all_shares}

-- how many shares the pass has
abbrev pub share_of : View → ℕ
share_of view = view.share

-- 1 for some ticket
abbrev pub one_if : Option ℕ → ℕ
one_if None = 0
one_if (Some ticket) = 1

-- 1 where the pass holds a ticket
abbrev pub holding : View → ℕ
holding view = one_if view.ticket

-- 1 for true
abbrev pub bit : Bool → ℕ
bit true = 1
bit false = 0

-- 1 where the pass has the turn
abbrev pub turning : View → ℕ
turning view = bit view.has_turn

-- A pass that was joined away has no ticket. A ticket is from `at_turn` on and below `drawn`, and
-- was drawn by this seat. Who has the turn has the ticket that is served.
pub record HasOwnTicket (at_turn drawn : ℕ) (owner : ℕ → ℕ) (seat : ℕ) (view : View)
    : Type 0 where
  pub spent : view.share ≡ 0 → view.ticket ≡ None
  pub waits : (ticket : ℕ) → view.ticket ≡ Some ticket
      → (at_turn ≤ ticket) × (ticket < drawn) × (owner ticket ≡ seat)
  pub called : view.has_turn ≡ true → view.ticket ≡ Some at_turn

-- The shares are no more than there are. As many passes hold tickets as were drawn and not yet
-- served, and `owner` says which seat drew a ticket, so no two have one ticket and at most one has
-- the turn. Where none has it, the value is in its slot and is right.
pub record IsTicketQueue {S : Type 0} (IsRight : S → Type 0) (state : State (Option S) View)
    : Type 0 where
  pub at_turn : ℕ
  pub drawn : ℕ
  pub owner : ℕ → ℕ
  pub three_words : length state.words ≡ 3
  pub ticket_word : slice_index state.words 1 ≡ drawn % 2 ^ 64
  pub at_turn_word : slice_index state.words 2 ≡ at_turn % 2 ^ 64
  pub shares : sum_by share_of state.views ≤ all_shares
  pub holders : drawn ≡ at_turn + sum_by holding state.views
  pub each : (seat : ℕ) (view : View) → get_elem? state.views seat ≡ some view
      → HasOwnTicket at_turn drawn owner seat view
  pub one_slot : length state.homes ≡ 1
  pub home : sum_by turning state.views ≡ 0
      → (value : S) × (state.homes ≡ some (Some value) ∷ []) × IsRight value
