-- What each step makes of the one history.
use Rattle.std.proofs.Common.{◌≡◌, ◌≢◌, ℕ, ◌+◌, true, List, [], ◌∷◌, ◌++◌, length, set, sym, refl, ap, ◌∙◌, subst, ⊎_elim, arith, length-append}
use Rattle.std.specs.List.{sum_by}
use Rattle.std.proofs.lemmas.List.Sums.{sum_by-cons, sum_by_push}
use mathlib.Core.Option.{some}
use lib.ListN.{get_elem?}
use Rattle.atomic_table.proofs.Lists.{at_snoc}
use Rattle.hose_graph.specs.declared.entry.Entry.{Entry}
use Rattle.hose_turn.specs.declared.view.View.{View}
use Rattle.hose_turn.specs.declared.view.Origin.{Origin}
use Rattle.hose_turn.specs.Places.{times, one_within, HasPlaces}
use Rattle.hose_turn.specs.steps.Places.{HasSomePlaces}
use Rattle.hose_turn.specs.steps.Views.{nobody}
use Rattle.hose_turn.specs.steps.History.{IsInformed, IsHistory, owning}
use Rattle.hose_turn.proofs.Places.{times-append, one_within-push, one_within-none}
use Rattle.hose_turn.proofs.Prefix.{prefix_self, prefix_push, prefix_length}
use Rattle.hose_turn.proofs.Sums.{sum_set, sum_none, sum_has}
use Rattle.hose_turn.proofs.Seats.{seats_stay, only, not_on}

pub nobody_informed : (origin : Origin) (history : List Entry) → IsInformed origin history nobody
nobody_informed origin history = record {
  spent = λ _. refl;
  same = λ live. absurd (omega arith);
  seen = (history, refl);
  told = (history, refl);
  latest = λ on. absurd (not_on on);
}

module _ {origin : Origin} {history : List Entry} {epoch : ℕ} {views : List View} where
  -- a seat that keeps its own places
  pub history_stays : (known : IsHistory origin history epoch views) (seat : ℕ) (old new : View) → get_elem? views seat ≡ some old → new.own ≡ old.own
      → IsInformed origin history new → IsHistory origin history epoch (set views seat new)
  history_stays known seat old new at owns mine = record {
    epoch_word = known.epoch_word;
    since = known.since;
    each = seats_stay (λ _. IsInformed origin history) views seat new mine (λ other view _. known.each other view);
    own = λ place. let a = sum_set (owning place) views seat old new at in let b = ap (times place) owns in let c = known.own place in omega arith;
  }

  -- a new seat with nothing of its own
  pub history_splits : (known : IsHistory origin history epoch views) (seat : ℕ) (old new branch : View) → get_elem? views seat ≡ some old → new.own ≡ old.own → branch.own ≡ []
      → IsInformed origin history new → IsInformed origin history branch → IsHistory origin history epoch (set views seat new ++ branch ∷ [])
  history_splits known seat old new branch at owns bare mine theirs =
      let stays = history_stays known seat old new at owns mine in record {
        epoch_word = known.epoch_word;
        since = known.since;
        each = λ other view is. ⊎_elim (stays.each other view) (λ (same : branch ≡ view). subst (IsInformed origin history) same theirs) (at_snoc (set views seat new) branch view other is);
        own = λ place. let a = sum_by_push (owning place) (set views seat new) branch in let b = ap (times place) bare in let c = stays.own place in omega arith;
      }

  -- a seat takes in what is another one's own
  pub history_joins : (known : IsHistory origin history epoch views) (seat : ℕ) (old new : View) (other : ℕ) (theirs spent : View) → get_elem? views seat ≡ some old
      → get_elem? (set views seat new) other ≡ some theirs → new.own ≡ old.own ++ theirs.own → spent.own ≡ []
      → IsInformed origin history new → IsInformed origin history spent → IsHistory origin history epoch (set (set views seat new) other spent)
  history_joins known seat old new other theirs spent at there owns bare mine left = record {
    epoch_word = known.epoch_word;
    since = known.since;
    each = seats_stay (λ _. IsInformed origin history) (set views seat new) other spent left
        (λ i view _. seats_stay (λ _. IsInformed origin history) views seat new mine (λ j each _. known.each j each) i view);
    own = λ place. let a = sum_set (owning place) views seat old new at in let b = sum_set (owning place) (set views seat new) other theirs spent there in
        let c = ap (times place) owns ∙ times-append place old.own theirs.own in let d = ap (times place) bare in let e = known.own place in omega arith;
  }

  -- The history gains an entry, which is the seat's own. No other seat has the turn.
  pub history_grows : (known : IsHistory origin history epoch views) (seat : ℕ) (old new : View) (entry : Entry) → get_elem? views seat ≡ some old
      → new.own ≡ old.own ++ length history ∷ [] → IsInformed origin (history ++ entry ∷ []) new
      → ((other : ℕ) (view : View) → other ≢ seat → get_elem? views other ≡ some view → view.has_turn ≡ true → ⊥)
      → IsHistory origin (history ++ entry ∷ []) (epoch + 1) (set views seat new)
  history_grows known seat old new entry at owns mine alone =
      let longer : length (history ++ entry ∷ []) ≡ length history + 1 = length-append history (entry ∷ []) in record {
        epoch_word = let word = known.epoch_word in omega arith;
        since = prefix_push origin.since history entry known.since;
        each = seats_stay (λ _. IsInformed origin (history ++ entry ∷ [])) views seat new mine (λ other view apart there. let theirs = known.each other view there in record {
          spent = theirs.spent;
          same = theirs.same;
          seen = prefix_push view.seen history entry theirs.seen;
          told = prefix_push view.told history entry theirs.told;
          latest = λ on. absurd (alone other view apart there on);
        });
        own = λ place. let a = sum_set (owning place) views seat old new at in let b = ap (times place) owns ∙ times-append place old.own (length history ∷ []) in let c = known.own place in
            let d = one_within-push (length origin.since) (length history) place (prefix_length origin.since history known.since) in
            let e : sum_by (owning place) (set views seat new) ≡ one_within (length origin.since) (length history + 1) place = omega arith in
            e ∙ ap (λ (n : ℕ). one_within (length origin.since) n place) (sym longer);
      }

  -- a seat has some of the places, each once
  pub history_owned : (known : IsHistory origin history epoch views) (seat : ℕ) (mine : View) → get_elem? views seat ≡ some mine → HasSomePlaces (length origin.since) (length history) mine.own
  history_owned known seat mine at place = let a = sum_has (owning place) views seat mine at in let b = known.own place in omega arith

  -- who has all shares has all places
  pub history_ends : (known : IsHistory origin history epoch views) (seat : ℕ) (mine : View) → get_elem? views seat ≡ some mine
      → ((other : ℕ) (view : View) → other ≢ seat → get_elem? views other ≡ some view → view.share ≡ 0) → HasPlaces (length origin.since) (length history) mine.own
  history_ends known seat mine at spent place =
      let a = sum_set (owning place) views seat mine nobody at in
      let b = sum_none (owning place) (set views seat nobody) (seats_stay (λ _ view. owning place view ≡ 0) views seat nobody refl
      (λ other view apart there. ap (times place) ((known.each other view there).spent (spent other view apart there)))) in
      let c = known.own place in omega arith

-- at a table with one seat, which has seen the first list
pub history_opens : (origin : Origin) (view : View) → view.own ≡ [] → IsInformed origin origin.since view → IsHistory origin origin.since (origin.first + length origin.since) (view ∷ [])
history_opens origin view bare mine = record {
  epoch_word = refl;
  since = prefix_self origin.since;
  each = λ seat other there. subst (IsInformed origin origin.since) (only view other seat there) mine;
  own = λ place. let a = sum_by-cons (owning place) view [] in let b = ap (times place) bare in let c = one_within-none (length origin.since) place in omega arith;
}
