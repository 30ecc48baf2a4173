-- What was tried and not taken: which pass did, and who knows all of it.
use Rattle.std.specs.Prelude.{◌≡◌, ℕ, true, List, [], Contains}
use mathlib.Core.Option.{some}
use lib.ListN.{get_elem?}
use Rattle.hose_turn.specs.declared.view.Tried.{Tried}
use Rattle.hose_turn.specs.declared.view.View.{View}

-- A pass that was joined away tried nothing. Who has the turn knows all that was tried.
pub record IsAware (tries : List Tried) (view : View) : Type 0 where
  pub spent : view.share ≡ 0 → view.tried ≡ []
  pub latest : view.has_turn ≡ true → view.all_tried ≡ tries

-- each of what was tried was tried by a pass
pub record AreTries (tries : List Tried) (views : List View) : Type 0 where
  pub each : (seat : ℕ) (view : View) → get_elem? views seat ≡ some view → IsAware tries view
  pub owned : (one : Tried) → Contains tries one → (seat : ℕ) × (view : View)
      × (get_elem? views seat ≡ some view) × Contains view.tried one
