use Rattle.std.proofs.Common.{◌∙◌, ap}
use Rattle.hose_law.specs.Quotes.{none_held}
use Rattle.hose_turn.specs.declared.view.Origin.{Origin}
use Rattle.tests_threads.proofs.shared.admit.Goals as goal

pub returns : goal.returns
returns g c = let same = (c.admit.ensures.steps none_held).same in record { turn = same.turn ∙ c.requires.of.turn; network = ap (λ (o : Origin). o.network) same.origin ∙ c.requires.of.network; places = same.places }
