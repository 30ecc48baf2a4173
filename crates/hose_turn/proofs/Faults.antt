-- What each step makes of the numbers of faults.
use Rattle.std.proofs.Common.{◌≡◌, ◌≢◌, ◌⊎◌, inl, inr, ℕ, ◌+◌, ◌<◌, ◌≤◌, true, List, [], ◌∷◌, ◌++◌, set, refl, subst, ⊎_elim, arith}
use Rattle.std.specs.List.{sum_by}
use Rattle.std.proofs.lemmas.List.Sums.{sum_by-cons, sum_by_push}
use Rattle.std.proofs.lemmas.Bool.Decides.{nat_tests}
use mathlib.Core.Logic.{dite}
use mathlib.Core.Option.{some}
use native.Mathlib.Decide.{dec_le}
use lib.ListN.{get_elem?}
use Rattle.atomic_table.proofs.Lists.{at_snoc}
use Rattle.hose_turn.specs.declared.view.View.{View}
use Rattle.hose_turn.specs.Faults.{end_of_count}
use Rattle.hose_turn.specs.steps.Faults.{rise, faults_of, IsFloored, IsTally}
use Rattle.hose_turn.specs.steps.Views.{nobody}
use Rattle.hose_turn.proofs.Sums.{sum_set, sum_has}
use Rattle.hose_turn.proofs.Seats.{seats_stay, only, not_on}

pub rise_fits : (floor count : ℕ) → floor ≤ count → count < end_of_count → floor + rise floor count ≤ count
rise_fits floor count le small = grind (arith, nat_tests)

pub nobody_floored : (count : ℕ) → IsFloored count nobody
nobody_floored count = record { spent = λ _. refl; floor = λ on. absurd (not_on on) }

module _ {count : ℕ} {views : List View} where
  -- a seat that keeps its number of faults
  pub tally_stays : (tally : IsTally count views) (seat : ℕ) (old new : View) → get_elem? views seat ≡ some old → new.faults ≡ old.faults → IsFloored count new → IsTally count (set views seat new)
  tally_stays tally seat old new at same mine = record {
    each = seats_stay (λ _. IsFloored count) views seat new mine (λ other view _. tally.each other view);
    sum = let a = sum_set faults_of views seat old new at in ⊎_elim (λ (le : sum_by faults_of views ≤ count). inl (omega arith)) (λ (full : end_of_count ≤ count). inr full) tally.sum;
  }

  -- a new seat with no faults
  pub tally_splits : (tally : IsTally count views) (seat : ℕ) (old new branch : View) → get_elem? views seat ≡ some old → new.faults ≡ old.faults → branch.faults ≡ 0
      → IsFloored count new → IsFloored count branch → IsTally count (set views seat new ++ branch ∷ [])
  tally_splits tally seat old new branch at same none_met mine theirs = let stays = tally_stays tally seat old new at same mine in record {
    each = λ other view is. ⊎_elim (stays.each other view) (λ (same : branch ≡ view). subst (IsFloored count) same theirs) (at_snoc (set views seat new) branch view other is);
    sum = let a = sum_by_push faults_of (set views seat new) branch in ⊎_elim (λ (le : sum_by faults_of (set views seat new) ≤ count). inl (omega arith)) (λ (full : end_of_count ≤ count). inr full) stays.sum;
  }

  -- a seat takes in another one's faults
  pub tally_joins : (tally : IsTally count views) (seat : ℕ) (old new : View) (other : ℕ) (theirs spent : View) → get_elem? views seat ≡ some old
      → get_elem? (set views seat new) other ≡ some theirs → new.faults ≡ old.faults + theirs.faults → spent.faults ≡ 0
      → IsFloored count new → IsFloored count spent → IsTally count (set (set views seat new) other spent)
  tally_joins tally seat old new other theirs spent at there sums none_left mine left = record {
    each = seats_stay (λ _. IsFloored count) (set views seat new) other spent left (λ i view _. seats_stay (λ _. IsFloored count) views seat new mine (λ j each _. tally.each j each) i view);
    sum = let a = sum_set faults_of views seat old new at in let b = sum_set faults_of (set views seat new) other theirs spent there in
        ⊎_elim (λ (le : sum_by faults_of views ≤ count). inl (omega arith)) (λ (full : end_of_count ≤ count). inr full) tally.sum;
  }

  -- The seat that has the turn gives a value on whose count of faults is another, and has some faults more. No other seat has the turn.
  pub tally_passes : (tally : IsTally count views) (seat : ℕ) (old new : View) (now more : ℕ) → get_elem? views seat ≡ some old → old.has_turn ≡ true
      → count ≤ now → (now < end_of_count → count + more ≤ now) → new.faults ≡ old.faults + more → IsFloored now new
      → ((other : ℕ) (view : View) → other ≢ seat → get_elem? views other ≡ some view → view.has_turn ≡ true → ⊥)
      → IsTally now (set views seat new)
  tally_passes tally seat old new now more at on above fits sums mine alone = record {
    each = seats_stay (λ _. IsFloored now) views seat new mine (λ other view apart there. record { spent = (tally.each other view there).spent; floor = λ on'. absurd (alone other view apart there on') });
    sum = let a = sum_set faults_of views seat old new at in
        dite (dec_le end_of_count now) (λ (full : end_of_count ≤ now). inr full)
        (λ small. let b = fits (omega arith) in ⊎_elim (λ (le : sum_by faults_of views ≤ count). inl (omega arith)) (λ (full : end_of_count ≤ count). absurd (omega arith)) tally.sum);
  }

  -- a pass has met no more faults than the value counts
  pub tally_ends : (tally : IsTally count views) (seat : ℕ) (mine : View) → get_elem? views seat ≡ some mine → (mine.faults ≤ count) ⊎ (end_of_count ≤ count)
  tally_ends tally seat mine at = ⊎_elim (λ (le : sum_by faults_of views ≤ count). let a = sum_has faults_of views seat mine at in inl (omega arith)) (λ (full : end_of_count ≤ count). inr full) tally.sum

-- at a table with one seat, which has met no faults
pub tally_opens : (count : ℕ) (view : View) → view.faults ≡ 0 → IsFloored count view → IsTally count (view ∷ [])
tally_opens count view none_met mine = record {
  each = λ seat other there. subst (IsFloored count) (only view other seat there) mine;
  sum = inl (omega (arith, sum_by-cons faults_of view []));
}
