-- Counts of faults, which stand still at the end of their type, and the numbers of faults that
-- passes have met: steps of proofs.
use Rattle.std.specs.Prelude.{◌≡◌, ◌⊎◌, ℕ, ◌≤◌, true, List, if◌then◌else◌, nat_le, nat_lt}
use Rattle.std.specs.List.{sum_by}
use mathlib.Core.Option.{some}
use lib.ListN.{get_elem?}
use Rattle.hose_turn.specs.declared.view.View.{View}
use Rattle.hose_turn.specs.Faults.{end_of_count}

-- 1 where the count rose from `floor` to `count`, or cannot rise, and else 0
abbrev pub rise : ℕ → ℕ → ℕ
rise floor count =
    if nat_lt floor count then 1 else (if nat_le end_of_count count then 1 else 0)

-- 0: the first pass has met no faults
abbrev pub no_rise : ℕ → ℕ → ℕ
no_rise floor count = 0

-- A pass that was joined away has no faults. Who has the turn has the count of faults of the value
-- as it was taken.
pub record IsFloored (count : ℕ) (view : View) : Type 0 where
  pub spent : view.share ≡ 0 → view.faults ≡ 0
  pub floor : view.has_turn ≡ true → view.floor ≡ count

-- how many faults the pass has met
abbrev pub faults_of : View → ℕ
faults_of view = view.faults

-- The passes have met no more faults together than the value counts, unless its count cannot rise.
pub record IsTally (count : ℕ) (views : List View) : Type 0 where
  pub each : (seat : ℕ) (view : View) → get_elem? views seat ≡ some view → IsFloored count view
  pub sum : (sum_by faults_of views ≤ count) ⊎ (end_of_count ≤ count)
