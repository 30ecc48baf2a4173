-- A pass whose parts are gathered again, and the connections that came back with them.
use Rattle.std.proofs.Common.{◌≡◌, ◌∙◌, ◌⊎◌, inl, inr, ℕ, suc, All, ◌+◌, ◌≤◌, List, [], ◌∷◌, ◌++◌, length, Option, None, Some, Result, Ok, Err, OnOk, refl, sym, ap, subst, arith, append-nil}
use Rattle.std.specs.Prelude.{⊤}
use mathlib.Core.List.{IsPrefix}
use Rattle.hose_io.specs.Connections.{Connection, Connections}
use Rattle.hose_io.specs.steps.Connections.{AreUsedUp}
use Rattle.hose_io.specs.Frame.{Frame, Met}
use Rattle.hose_io.specs.declared.Failed.{Failed}
use Rattle.hose_io.specs.declared.door.Door.{Ghosts as DoorGhosts}
use Rattle.hose_law.proofs.Fronts.{prefix_same}
use Rattle.hose_session.specs.Accounts.{AccountFor}
use Rattle.hose_shared.specs.steps.Sharing.{IsPassOf, SharedBook}
use Rattle.hose_turn.specs.Known.{Known}
use Rattle.hose_turn.specs.steps.Known.{HasOwnPlaces}
use Rattle.hose_crew.specs.Crew.{AreServed}
use Rattle.hose_crew.specs.steps.Crew.{ServesDoor}
use Rattle.hose_crew.specs.steps.Desk.{AreArrived, HasStopped, started_at}
use Rattle.hose_crew.specs.steps.Hands.{AreBack, IsGathered}

pub all_rest : {A : Type 0} (P : A → Type 0) (first : A) (rest : List A) → All P (first ∷ rest) → All P rest
all_rest P first rest all = λ place else below. all (suc place) else (omega (arith, below))

-- a pass that is the first one but for its share is one of the same book
pub still_of : (shared : SharedBook) (first pass : Known) → pass ≡ record first { share = pass.share } → IsPassOf shared first → IsPassOf shared pass
still_of shared first pass same of = record { turn = ap (λ (p : Known). p.turn) same ∙ of.turn; network = ap (λ (p : Known). p.origin.network) same ∙ of.network; places = subst HasOwnPlaces (sym same) of.places }

-- no worker has given up its place
pub none_gathered : (workers : ℕ) (first pass : Known) (parts : ℕ) → pass ≡ record first { share = pass.share } → pass.share + workers ≡ first.share → parts ≡ 0 → HasOwnPlaces first → IsGathered workers first pass parts
none_gathered workers first pass parts same left none places = record {
  turn = ap (λ (p : Known). p.turn) same;
  origin = ap (λ (p : Known). p.origin) same;
  share = omega (arith, left, none);
  seen = subst (λ (p : Known). IsPrefix first.seen p.seen) (sym same) (prefix_same first.seen);
  faults = omega (arith, ap (λ (p : Known). p.faults) same);
  places = subst HasOwnPlaces (sym same) places;
}

-- and no connection came back
pub none_returned : (start was : Option Connections) (total : ℕ) (count : ℕ) (pass : Known) → count ≡ 0 → AccountFor [] pass → AreBack was was count pass
none_returned start None total count pass none account = tt
none_returned start (Some was) total count pass none account = ([], rw (append-nil was.ended) refl, sym none, account)

module _ {L In Out Done : Type 0} (door : DoorGhosts L In Out Done) (was mid now : L) (connections total count workers parts : ℕ) (old new : Known) (stopped : Result ⊤ Failed)
    (gathered : IsGathered workers old new parts) (whole : parts ≡ workers) (all : count ≡ total) (few : total ≤ connections)
    (frame : door.frame now ≡ door.frame mid) (port : door.opened_at now ≡ door.opened_at was) where
  -- all are back
  pub serves : HasStopped (started_at door was connections) (door.frame mid) (door.told mid) total stopped → AreArrived (door.told was) (door.told mid) total → AreBack (door.told mid) (door.told now) count new → ServesDoor door was now connections old new stopped
  serves stops arrived back = record {
    met = subst (λ (f : Frame). Met (door.frame was) f stopped) (sym frame) stops.met;
    port = port;
    same = record {
      turn = gathered.turn;
      origin = gathered.origin;
      share = omega (arith, gathered.share, whole);
      seen = gathered.seen;
      faults = gathered.faults;
      places = gathered.places;
    };
    served = at (door.told was) (door.told mid) (door.told now) arrived back stopped stops.all;
  }
    where
      end_all : (was mid now : Connections) (result : Result ⊤ Failed) (n : ℕ) → now.coming ≡ mid.coming → n ≡ total → OnOk result ((total ≡ connections) ⊎ AreUsedUp (Some mid)) → OnOk result ((n ≡ connections) ⊎ (now.coming ≡ []))
      end_all was mid now (Err failed) n same counted ends = tt
      end_all was mid now (Ok done) n same counted (inl is) = inl (counted ∙ is)
      end_all was mid now (Ok done) n same counted (inr none) = inr (same ∙ none)

      at : (was mid now : Option Connections) → AreArrived was mid total → AreBack mid now count new → (result : Result ⊤ Failed) → OnOk result ((total ≡ connections) ⊎ AreUsedUp mid) → AreServed was now connections new result
      at None None None arrived back result ends = tt
      at None None (Some now) arrived back result ends = absurd back
      at None (Some mid) now arrived back result ends = absurd arrived
      at (Some was) None now arrived back result ends = absurd arrived
      at (Some was) (Some mid) None arrived back result ends = absurd back
      at (Some was) (Some mid) (Some now) arrived back result ends =
          let size = back.2 ∙ all in
          record {
            connections = back.0;
            accepted = omega (arith, ap (λ (c : Connections). c.accepted) back.1, arrived.accepted, size);
            coming = ap (λ (c : Connections). c.coming) back.1 ∙ rw size arrived.coming;
            ended = ap (λ (c : Connections). c.ended) back.1 ∙ ap (λ (e : List Connection). e ++ back.0) arrived.ended;
            few = omega (arith, size, few);
            all = end_all was mid now result (length back.0) (ap (λ (c : Connections). c.coming) back.1) size ends;
            account = back.3;
          }
