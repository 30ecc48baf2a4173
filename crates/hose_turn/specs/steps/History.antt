-- The one history: what each pass has seen of it, and whose its entries are.
use Rattle.std.specs.Prelude.{◌≡◌, ℕ, ◌+◌, ◌<◌, true, List, [], length}
use Rattle.std.specs.List.{sum_by}
use mathlib.Core.List.{IsPrefix}
use mathlib.Core.Option.{some}
use lib.ListN.{get_elem?}
use Rattle.hose_graph.specs.declared.entry.Entry.{Entry}
use Rattle.hose_turn.specs.declared.view.View.{View}
use Rattle.hose_turn.specs.declared.view.Origin.{Origin}
use Rattle.hose_turn.specs.Places.{times, one_within}

-- A pass that was joined away has nothing of its own. What a pass has seen or was told is a
-- beginning of the history, and who has the turn has seen all of it.
pub record IsInformed (origin : Origin) (history : List Entry) (view : View) : Type 0 where
  pub spent : view.share ≡ 0 → view.own ≡ []
  pub same : 0 < view.share → view.origin ≡ origin
  pub seen : IsPrefix view.seen history
  pub told : IsPrefix view.told history
  pub latest : view.has_turn ≡ true → view.seen ≡ history

-- how often the place is the pass's own
abbrev pub owning : ℕ → View → ℕ
owning place view = times place view.own

-- The history begins with the first list, and each of its later places is one pass's own, once.
pub record IsHistory (origin : Origin) (history : List Entry) (epoch : ℕ) (views : List View)
    : Type 0 where
  pub epoch_word : epoch ≡ origin.first + length history
  pub since : IsPrefix origin.since history
  pub each : (seat : ℕ) (view : View) → get_elem? views seat ≡ some view
      → IsInformed origin history view
  pub own : (place : ℕ)
      → sum_by (owning place) views ≡ one_within (length origin.since) (length history) place
