use Rattle.std.proofs.Common.{refl}
use Rattle.hose_book.specs.steps.GoingOn.{none_yet}
use Rattle.hose_shared.proofs.shared.Shared.share.Goals as goal

pub from_ticket-requires : goal.from_ticket-requires
from_ticket-requires g c = (
  record { first = 0; since = c.requires.stands.0; network = c.args.store.ledger.network },
  record { first = c.args.store; begins = c.requires.stands.1; goes_on = none_yet; epoch = refl; network = refl; book = c.requires.stands.2; tracks = c.requires.stands.3 },
)
