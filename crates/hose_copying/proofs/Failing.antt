-- Which file is told as the one at which the cabinet failed, from what was read and what was done.
use Rattle.std.proofs.Common.{◌≡◌, inl, inr, List, ℕ, IsErr, Result, Ok, Err, refl, subst, sym}
use Rattle.std.specs.Prelude.{⊤}
use Rattle.hose_io.specs.declared.Failed.{Failed}
use Rattle.hose_graph.specs.Network.{Network}
use Rattle.hose_follow.specs.declared.following.FollowEnd.{FollowEnd}
use Rattle.hose_follow.specs.declared.following.FollowEnd.TheVariants as end
use Rattle.hose_copying.specs.CutOutcome.{CutNames, CutsNamed}
use Rattle.hose_copying.specs.Failing.{FailsCut, FailsMoved}
use Rattle.hose_copying.specs.Following.{following_done}
use Rattle.hose_copying.specs.Moving.{MoveNames, MovesNamed}
use Rattle.hose_outside.specs.Parts.{Parts, Tellings}
use Rattle.hose_outside.specs.Unopened.{first_of}
use Rattle.hose_copying.specs.ShipOutcome.{ShipsJournal}
use Rattle.hose_outside.specs.declared.fault.Fault.{Fault}
use Rattle.hose_outside.specs.declared.fault.Fault.TheVariants.{Cabinet, Text, Write}
use Rattle.hose_outside.specs.declared.move_stop.MoveStop.{MoveStop}
use Rattle.hose_copying.specs.declared.move_end.Moved.{Moved}
use Rattle.hose_outside.specs.declared.why.Why.{Why}
use Rattle.hose_copying.specs.steps.MoveEnd.{IsWhyOfMove}
use Rattle.hose_outside.specs.steps.Failing.{FailsOpened}
use Rattle.hose_copying.specs.steps.Following.{FollowsJournal}
use Rattle.hose_outside.specs.steps.LastLine.{why_of}

-- following ends with a fault of the cabinet where closing failed alone
follow_text : (ended : FollowEnd) (closing : Result ⊤ Failed) → Err Text ≡ first_of (following_done ended) closing → ⊥
follow_text end.End (Ok closed) is = cc is
follow_text another (Ok closed) is = cc is
follow_text end.End (Err failed) is = cc is
follow_text another (Err failed) is = cc is

follow_cabinet : (ended : FollowEnd) (closing : Result ⊤ Failed) → Err Cabinet ≡ first_of (following_done ended) closing → IsErr closing
follow_cabinet ended (Err failed) is = refl
follow_cabinet end.End (Ok closed) is = absurd (cc is)
follow_cabinet another (Ok closed) is = absurd (cc is)

module _ {I O C E : Type 0} (tells : Tellings I O C E) (journal : List ℕ) where
  pub ships_fail : (from : ℕ) (before after : Parts I O C) (network : Network) (done : Result ⊤ Fault) → ShipsJournal tells journal from before after network done → FailsOpened tells.cabinet before.cabinet after.cabinet (why_of done)
  ships_fail from before after network (Ok done) ships = tt
  ships_fail from before after network (Err Write) ships = tt
  ships_fail from before after network (Err Text) ships = absurd ships.0
  ships_fail from before after network (Err Cabinet) ships = ships.0.1
  ships_fail from before after network (Err another) ships = tt

  pub follows_fail : (before after : Parts I O C) (network : Network) (done : Result ⊤ Fault) → FollowsJournal tells journal before after network done → FailsOpened tells.cabinet before.cabinet after.cabinet (why_of done)
  follows_fail before after network (Ok done) follows = tt
  follows_fail before after network (Err Text) (inl not) = absurd not.0
  follows_fail before after network (Err Text) (inr (ended, closing, has, is)) = absurd (follow_text ended closing is)
  follows_fail before after network (Err Cabinet) (inl not) = not.0.1
  follows_fail before after network (Err Cabinet) (inr (ended, closing, has, is)) = has.met.failed (follow_cabinet ended closing is)
  follows_fail before after network (Err another) follows = tt

-- ---- a move and a cut

module _ {I O C E : Type 0} (tells : Tellings I O C E) where
  pub move_fails : (names : MoveNames) (before after : Parts I O C) (left : O) (done : Result Moved MoveStop) → MovesNamed tells names before (record after { output = left }) done → (why : Why) → IsWhyOfMove done why → FailsMoved tells names before after why
  move_fails names before after left (Ok moved) moves why (inl is) = subst (FailsMoved tells names before after) (sym is) tt
  move_fails names before after left (Ok moved) moves why (inr is) = subst (FailsMoved tells names before after) (sym is) tt
  move_fails names before after left (Err stop) moves why is = subst (FailsMoved tells names before after) (sym is) (left, moves)

  pub cut_fails : (names : CutNames) (before after : Parts I O C) (left : O) (done : Result Moved MoveStop) → CutsNamed tells names before (record after { output = left }) done → (why : Why) → IsWhyOfMove done why → FailsCut tells names before after why
  cut_fails names before after left (Ok moved) cuts why (inl is) = subst (FailsCut tells names before after) (sym is) tt
  cut_fails names before after left (Ok moved) cuts why (inr is) = subst (FailsCut tells names before after) (sym is) tt
  cut_fails names before after left (Err stop) cuts why is = subst (FailsCut tells names before after) (sym is) (left, cuts)
