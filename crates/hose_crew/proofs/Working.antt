-- What a worker has in hand after one connection more.
use Rattle.std.proofs.Common.{◌≡◌, ◌∙◌, ◌+◌, List, [], ◌∷◌, ◌++◌, IsTrue, is_some, length, Option, Some, refl, sym, ap, subst, arith, length-append}
use Rattle.std.proofs.lemmas.List.{map-append}
use mathlib.Core.List.{IsPrefix}
use Rattle.hose_io.specs.Connections.{Connection, Connections}
use Rattle.hose_law.proofs.Fronts.{prefix_on}
use Rattle.hose_session.specs.Accounts.{AccountFor}
use Rattle.hose_session.proofs.Accounting.{none_accounts}
use Rattle.hose_shared.specs.steps.Sharing.{IsSamePass}
use Rattle.hose_shared.proofs.Passes.{more_same}
use Rattle.hose_turn.specs.Known.{Known}
use Rattle.hose_turn.proofs.Places.{no_places}
use Rattle.hose_turn.specs.declared.view.Origin.{Origin}
use Rattle.hose_crew.specs.steps.Hands.{PlaceState, Works, part_of}

-- a place that was just taken
pub begins_work : (told : Option Connections) (first : Known) (place : PlaceState) (ended : List (Option Connection)) → place.pass ≡ part_of first → place.parts ≡ 1 → place.amount ≡ 0 → ended ≡ [] → Works told first place ended
begins_work told first place ended is parts none empty = subst (Works told first place) (sym empty) (record {
  same = subst (IsSamePass (part_of first)) (sym is) (more_same (part_of first) (no_places (length first.origin.since) (length first.seen))).same;
  parts = parts;
  amount = none;
  accounts = λ tells. record { connections = []; are = refl; account = none_accounts place.pass (ap (λ (k : Known). k.own) is) (ap (λ (k : Known). k.tried) is) };
})

module _ (told : Option Connections) (first : Known) (place next : PlaceState) (ended : List (Option Connection)) (done : Option Connection) where
  pub works_more : IsPrefix first.origin.since first.seen → Works told first place ended → IsSamePass (part_of first) next.pass → next.parts ≡ place.parts → next.amount ≡ place.amount + 1
      → (IsTrue (is_some told) → IsPrefix place.pass.origin.since place.pass.seen → (connections : List Connection) → AccountFor connections place.pass
      → (connection : Connection) × (done ≡ Some connection) × AccountFor (connections ++ connection ∷ []) next.pass)
      → Works told first next (ended ++ done ∷ [])
  works_more since works same parts amount more = record {
    same = same;
    parts = parts ∙ works.parts;
    amount = omega (arith, amount, works.amount, length-append ended (done ∷ []));
    accounts = λ tells.
        let old = works.accounts tells in
        let began = subst (λ (origin : Origin). IsPrefix origin.since place.pass.seen) (sym works.same.origin) (prefix_on _ _ _ since works.same.seen) in
        let one = more tells began old.connections old.account in
        record {
          connections = old.connections ++ one.0 ∷ [];
          are = rw (old.are, one.1, map-append (λ (one : Connection). Some one) old.connections (one.0 ∷ [])) refl;
          account = one.2;
        };
  }
