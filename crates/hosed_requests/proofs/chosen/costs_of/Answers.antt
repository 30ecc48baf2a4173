use Rattle.std.proofs.Common.{arith}
use Rattle.hosed_requests.proofs.Commands.{chosen_nowhere, chosen_there}
use Rattle.hosed_requests.proofs.chosen.costs_of.Goals as goal

pub returns-then-place-tariffs : goal.returns-then-place-tariffs
returns-then-place-tariffs g c = rw c.in-Some.is (chosen_nowhere c.args.tariffs.now c.in-Some.place (omega (arith, c.if-place-tariffs.true)))

pub returns : goal.returns
returns g c = rw c.in-Some.is (chosen_there c.args.tariffs.now c.in-Some.place c.index-tariffs-place.result c.index-tariffs-place.is (omega (arith, c.if-place-tariffs.false)))
