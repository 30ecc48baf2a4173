-- A pass is there where it is of a lock.
use Rattle.std.proofs.Common.{◌≡◌, ◌∙◌, List, [], ◌∷◌, inl, inr, ap, sym}
use Rattle.atomic_table.specs.Seated.{TableId}
use Rattle.hose_turn.specs.declared.view.View.{View}
use Rattle.hose_turn.specs.Known.{Known}
use Rattle.hose_turn.specs.steps.Known.{HasOwnPlaces}
use Rattle.hose_turn.specs.steps.Views.{known_of, lock_of, view_of, IsIdle, IsResting}
use Rattle.hose_turn.proofs.Places.{no_places}

-- a pass of a lock with words is there
pub is_there : (turn : TableId) (views : List View) → IsIdle views → (lock_of turn views).words ≡ 3 → IsResting views
is_there turn [] idle words = absurd (cc words)
is_there turn (view ∷ views) idle words = elim idle [
  | inl none ↦ absurd (cc none)
  | inr rests ↦ rests
]

-- so is one of a lock that has them
pub rests_there : (inner : TableId) {lock turn : TableId} (views : List View) {known : Known} → IsIdle views → known_of (lock_of inner views) (view_of views) ≡ known → known.turn ≡ lock → turn ≡ lock → turn.words ≡ 3 → IsResting views
rests_there inner views idle is of same sized = is_there inner views idle (ap (λ (k : Known). k.turn.words) is ∙ (ap (λ (t : TableId). t.words) (of ∙ sym same) ∙ sized))

-- the places of every pass
pub own_places : (turn : TableId) (views : List View) → IsIdle views → HasOwnPlaces (known_of turn (view_of views))
own_places turn [] idle = no_places _ _
own_places turn (view ∷ views) idle = elim idle [
  | inl none ↦ absurd (cc none)
  | inr rests ↦ rests.rests.own
]
