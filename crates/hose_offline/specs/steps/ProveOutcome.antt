-- What stands after `prove`, by what ended it: steps of proofs.
use Rattle.std.specs.Prelude.{◌≡◌, ℕ, List, All, map}
use Rattle.hose_graph.specs.Hose.{Endpoint}
use Rattle.hose_graph.specs.Network.{Network}
use Rattle.hose_proto.specs.Places.{end_word}
use Rattle.hose_proto.specs.steps.Places.{IsEndOf}

-- ---- the endpoints

-- the words are those of these endpoints, one after the other
pub record AreEndsInOrder (network : Network) (words : List (List ℕ)) (ends : List Endpoint) :
    Type 0 where
  pub spelled : words ≡ map (end_word network) ends
  pub are : All (IsEndOf network) ends
