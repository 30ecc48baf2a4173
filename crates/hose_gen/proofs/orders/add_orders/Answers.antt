use Rattle.std.proofs.Common.{rules, ◌≡◌, [], ◌∷◌, ◌++◌}
use Rattle.std.specs.List.{All}
use Rattle.std.proofs.lemmas.List.Elements.{All-push}
use Rattle.hose_graph.specs.steps.Naming.{AsksOf}
use Rattle.hose_gen.specs.Generated.{Order}
use Rattle.hose_gen.proofs.orders.add_orders.Goals as goal

pub returns-clause-asks : goal.returns-clause-asks
returns-clause-asks c network is before =
    let admission = c.in_ok-admission.admission in
    let release = c.release.result in
    let asks : Order → Type 0 = λ order. AsksOf network order.1 in
    let first : c.push.new.self.items ≡ c.args.orders.now.items ++ admission ∷ [] = search rules in
    let both : c.push-2.new.self.items ≡ c.push.new.self.items ++ release ∷ [] = search rules in
    let one : All asks c.push.new.self.items = rw first (All-push asks c.args.orders.now.items admission before (c.in_ok-admission.ensures.asks network is)) in
    rw both (All-push asks c.push.new.self.items release one (c.release.ensures.asks network))
