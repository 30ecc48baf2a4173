-- What an answer makes of a connection: steps of proofs.
use Rattle.std.specs.Prelude.{◌≡◌, ℕ, List, [], ◌∷◌, ◌++◌, IfSome}
use Rattle.hose_graph.specs.Network.{Network}
use Rattle.hose_graph.specs.declared.entry.Entry.{Entry}
use Rattle.hose_follow.specs.Packet.{Packet}
use Rattle.hose_lead.specs.LedStore.{RecentState}
use Rattle.hose_lead.specs.steps.History.{IsRecentOf}
use Rattle.hose_lead.specs.Leading.{IsHeard}
use Rattle.hose_lead.specs.steps.Standby.{IsAt, StandbyState}

-- what is known of a connection by its lines and what was handed out
pub record Knows (network : Network) (list : List Entry) (lines : List (List ℕ))
    (packets : List Packet) (state : StandbyState) : Type 0 where
  pub at : IsAt network list lines packets state.heard state.stage
  pub heard : IfSome state.heard (IsHeard network list lines)

-- A line of this text was taken in: what is known is known with it, and nothing was handed out.
pub record Takes (network : Network) (list : List Entry) (text : List ℕ)
    (old new : StandbyState) : Type 0 where
  pub knows : (lines : List (List ℕ)) (packets : List Packet) → Knows network list lines packets old
      → Knows network list (lines ++ text ∷ []) packets new
  pub same_line : new.line ≡ old.line
  pub same_unsent : new.unsent ≡ old.unsent
  pub same_handed : new.handed ≡ old.handed
  pub same_answered : new.answered ≡ old.answered

-- Packets at hand were given up.
pub record Shortens (old new : RecentState) : Type 0 where
  pub is : (network : Network) (list : List Entry) → IsRecentOf network list old
      → IsRecentOf network list new
  pub rest : new ≡ record old { kept = new.kept }
