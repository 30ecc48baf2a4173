-- What the answers of a follower make of the history of its journal, and what following comes to:
-- steps of proofs.
use Rattle.std.specs.Prelude.{◌≡◌, ◌⊎◌, ℕ, List, Result, ⊤}
use Rattle.hose_io.specs.declared.Failed.{Failed}
use Rattle.hose_graph.specs.Network.{Network}
use Rattle.hose_follow.specs.declared.following.FollowEnd.{FollowEnd}
use Rattle.hose_outside.specs.Parts.{Parts, Tellings}
use Rattle.hose_outside.specs.Unopened.{OpensNoJournal, first_of}
use Rattle.hose_outside.specs.declared.fault.Fault.{Fault}
use Rattle.hose_copying.specs.Following.{following_done, HasFollowed}

-- ---- by the journal of a name

module _ {I O C E : Type 0} (tells : Tellings I O C E) (name : List ℕ)
    (before after : Parts I O C) (network : Network) where
  -- no packet was answered, and why; or the input was followed, and the first fault is told
  abbrev pub FollowsJournal : Result ⊤ Fault → Type 0
  FollowsJournal result =
      (OpensNoJournal tells.cabinet tells.disk name before.cabinet after.cabinet network result
      × (after.input ≡ before.input) × (after.output ≡ before.output))
      ⊎ ((ended : FollowEnd) × (closing : Result ⊤ Failed)
      × HasFollowed tells name before after network ended closing
      × (result ≡ first_of (following_done ended) closing))
