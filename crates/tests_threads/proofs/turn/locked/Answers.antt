-- The log stands for its own list, since that list itself.
use Rattle.std.proofs.Common.{refl, []}
use Rattle.tests_threads.proofs.turn.locked.Goals as goal

pub from_ticket-requires : goal.from_ticket-requires
from_ticket-requires c = (
  record {
    first = 0;
    since = c.args.log.entries.items;
    network = record { nodes = []; links = [] };
  },
  (refl, refl),
)
