-- Hoses: endpoints of a network, each with the rate that bounds its traffic. Contracts see a hose
-- as the list of them: steps of proofs.
use Rattle.std.specs.Prelude.{List, All}
use Rattle.hose_graph.specs.Hose.{Endpoint, HasDistinctNodes, IsCounted, IsEnd}

-- These endpoints, in any order, make a hose.
pub record MakesHose (ends : List Endpoint) : Type 0 where
  pub counted : IsCounted ends
  pub within : All IsEnd ends
  pub distinct : HasDistinctNodes ends
