-- What each step makes of what was tried.
use Rattle.std.proofs.Common.{◌≡◌, ◌≢◌, ◌⊎◌, ℕ, zero, suc, true, List, [], ◌∷◌, ◌++◌, set, sym, refl, ◌∙◌, subst, ⊎_elim, arith}
use Rattle.std.specs.Prelude.{Contains}
use Rattle.std.proofs.lemmas.List.Elements.{Contains-append_left, Contains-append_right, Contains-push, Contains-push_cases}
use mathlib.Core.Logic.{dite}
use mathlib.Core.Option.{some, some-injective, some-ne-none}
use native.Mathlib.Decide.{ℕ_discrete}
use lib.ListN.{get_elem?}
use Rattle.atomic_table.proofs.Lists.{at_longer, at_snoc, set_else}
use Rattle.hose_turn.specs.declared.view.Tried.{Tried}
use Rattle.hose_turn.specs.declared.view.View.{View}
use Rattle.hose_turn.specs.steps.Tries.{IsAware, AreTries}
use Rattle.hose_turn.specs.steps.Views.{nobody}
use Rattle.hose_turn.proofs.Seats.{seats_stay, only, not_on}

pub nobody_aware : (tries : List Tried) → IsAware tries nobody
nobody_aware tries = record { spent = λ _. refl; latest = λ on. absurd (not_on on) }

-- what stands where an item stood
set_at : (views : List View) (seat : ℕ) (old new : View) → get_elem? views seat ≡ some old → get_elem? (set views seat new) seat ≡ some new
set_at [] seat old new is = absurd (some-ne-none old (sym is))
set_at (x ∷ xs) zero old new is = refl
set_at (x ∷ xs) (suc seat) old new is = set_at xs seat old new is

-- which pass tried one
abbrev IsOwned : List View → Tried → Type 0
IsOwned views one = (seat : ℕ) × (view : View) × (get_elem? views seat ≡ some view) × Contains view.tried one

owned_set : (views : List View) (seat : ℕ) (old new : View) (one : Tried) → get_elem? views seat ≡ some old → (Contains old.tried one → Contains new.tried one) → IsOwned views one → IsOwned (set views seat new) one
owned_set views seat old new one at more (other, view, there, has) = dite (ℕ_discrete other seat)
    (λ (same : other ≡ seat).
    let is : old ≡ view = some-injective old view (sym at ∙ subst (λ (n : ℕ). get_elem? views n ≡ some view) same there) in
    (seat, new, set_at views seat old new at, more (subst (λ (v : View). Contains v.tried one) (sym is) has)))
    (λ apart. (other, view, set_else views seat other new apart ∙ there, has))

module _ {tries : List Tried} {views : List View} where
  -- a seat that keeps what it tried
  pub tries_stays : (are : AreTries tries views) (seat : ℕ) (old new : View) → get_elem? views seat ≡ some old → new.tried ≡ old.tried → IsAware tries new → AreTries tries (set views seat new)
  tries_stays are seat old new at same mine = record {
    each = seats_stay (λ _. IsAware tries) views seat new mine (λ other view _. are.each other view);
    owned = λ one has. owned_set views seat old new one at (subst (λ (all : List Tried). Contains all one) (sym same)) (are.owned one has);
  }

  -- a new seat that tried nothing
  pub tries_splits : (are : AreTries tries views) (seat : ℕ) (old new branch : View) → get_elem? views seat ≡ some old → new.tried ≡ old.tried → IsAware tries new → IsAware tries branch → AreTries tries (set views seat new ++ branch ∷ [])
  tries_splits are seat old new branch at same mine theirs =
      let stays = tries_stays are seat old new at same mine in record {
        each = λ other view is. ⊎_elim (stays.each other view) (λ (same : branch ≡ view). subst (IsAware tries) same theirs) (at_snoc (set views seat new) branch view other is);
        owned = λ one has. let is = stays.owned one has in (is.0, is.1, at_longer (set views seat new) (branch ∷ []) is.0 is.1 is.2, is.3);
      }

  -- a seat takes in what another one tried
  pub tries_joins : (are : AreTries tries views) (seat : ℕ) (old new : View) (other : ℕ) (theirs spent : View) → get_elem? views seat ≡ some old → ¬ (other ≡ seat)
      → get_elem? (set views seat new) other ≡ some theirs → new.tried ≡ old.tried ++ theirs.tried → IsAware tries new → IsAware tries spent → AreTries tries (set (set views seat new) other spent)
  tries_joins are seat old new other theirs spent at apart there owns mine left = record {
    each = seats_stay (λ _. IsAware tries) (set views seat new) other spent left (λ i view _. seats_stay (λ _. IsAware tries) views seat new mine (λ j each _. are.each j each) i view);
    owned = λ one has.
        let is = owned_set views seat old new one at (λ had. subst (λ (all : List Tried). Contains all one) (sym owns) (Contains-append_left old.tried theirs.tried one had)) (are.owned one has) in
        dite (ℕ_discrete is.0 other)
        (λ (same : is.0 ≡ other).
        let whose : theirs ≡ is.1 = some-injective theirs is.1 (sym there ∙ subst (λ (n : ℕ). get_elem? (set views seat new) n ≡ some is.1) same is.2) in (
          seat,
          new,
          set_else (set views seat new) other seat spent (λ e. apart (sym e)) ∙ set_at views seat old new at,
          subst (λ (all : List Tried). Contains all one) (sym owns) (Contains-append_right old.tried theirs.tried one (subst (λ (v : View). Contains v.tried one) (sym whose) is.3)),
        ))
        (λ differ. (is.0, is.1, set_else (set views seat new) other is.0 spent differ ∙ is.2, is.3));
  }

  -- The seat that has the turn tries one more. No other seat has the turn.
  pub tries_grow : (are : AreTries tries views) (seat : ℕ) (old new : View) (one : Tried) → get_elem? views seat ≡ some old → new.tried ≡ old.tried ++ one ∷ [] → IsAware (tries ++ one ∷ []) new
      → ((other : ℕ) (view : View) → other ≢ seat → get_elem? views other ≡ some view → view.has_turn ≡ true → ⊥)
      → AreTries (tries ++ one ∷ []) (set views seat new)
  tries_grow are seat old new one at owns mine alone = record {
    each = seats_stay (λ _. IsAware (tries ++ one ∷ [])) views seat new mine (λ other view apart there. record { spent = (are.each other view there).spent; latest = λ on. absurd (alone other view apart there on) });
    owned = λ which has. ⊎_elim
        (λ (before : Contains tries which). owned_set views seat old new which at (λ had. subst (λ (all : List Tried). Contains all which) (sym owns) (Contains-append_left old.tried (one ∷ []) which had)) (are.owned which before))
        (λ (same : one ≡ which). (seat, new, set_at views seat old new at, subst (λ (x : Tried). Contains new.tried x) same (subst (λ (all : List Tried). Contains all one) (sym owns) (Contains-push old.tried one))))
        (Contains-push_cases tries one which has);
  }

  -- who has all shares tried all of it
  pub tries_end : (are : AreTries tries views) (seat : ℕ) (mine : View) → get_elem? views seat ≡ some mine
      → ((other : ℕ) (view : View) → other ≢ seat → get_elem? views other ≡ some view → view.share ≡ 0) → (one : Tried) → Contains tries one → Contains mine.tried one
  tries_end are seat mine at spent one has =
      let is = are.owned one has in
      dite (ℕ_discrete is.0 seat)
      (λ (same : is.0 ≡ seat). let whose : mine ≡ is.1 = some-injective mine is.1 (sym at ∙ subst (λ (n : ℕ). get_elem? views n ≡ some is.1) same is.2) in subst (λ (v : View). Contains v.tried one) (sym whose) is.3)
      (λ apart. let none = (are.each is.0 is.1 is.2).spent (spent is.0 is.1 apart is.2) in let bare = subst (λ (all : List Tried). Contains all one) none is.3 in absurd (omega (arith, bare.1)))

-- at a table with one seat
pub tries_open : (view : View) → IsAware [] view → AreTries [] (view ∷ [])
tries_open view mine = record {
  each = λ seat other there. subst (IsAware []) (only view other seat there) mine;
  owned = λ one has. absurd (omega (arith, has.1));
}
