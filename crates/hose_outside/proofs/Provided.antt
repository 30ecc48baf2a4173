-- What a history that is decided provides.
use Rattle.std.proofs.Common.{List, length}
use Rattle.hose_graph.specs.Network.{IsNetwork, Network}
use Rattle.hose_graph.specs.declared.entry.Entry.{Entry}
use Rattle.hose_law.specs.History.{IsDecided}
use Rattle.hose_law.proofs.Cheapest.{decided_cheapest}
use Rattle.hose_law.proofs.Lives.{live_held, stays_live}
use Rattle.hose_law.proofs.Sold.{sold}
use Rattle.hose_outside.specs.Provides.{Provides}

pub decided_provides : (network : Network) → IsNetwork network → (since history : List Entry) → IsDecided network 0 (length since) history → Provides network since history
decided_provides network is since history decided = record {
  none_oversold = λ place l. sold network 0 history place l decided.sound;
  held = live_held 0 history;
  kept = stays_live 0 history;
  cheapest = decided_cheapest network is 0 (length since) history decided;
}
