use Rattle.std.proofs.Common.{◌≡◌, ◌∙◌, ℕ, ◌+◌, ◌<◌, List, length, ap, arith}
use Rattle.std.proofs.lemmas.List.Elements.{All-weaker}
use Rattle.std.proofs.lemmas.List.Sorted.{All-permutation}
use Rattle.hose_graph.specs.Hose.{Endpoint, node_of}
use Rattle.hose_graph.specs.declared.command.Command.TheVariants.{Admit}
use Rattle.hose_gen.specs.Draws.{draw}
use Rattle.hose_gen.specs.Generated.{customer_name, first_ends, in_order}
use Rattle.hose_gen.proofs.Sorted.{hose_of}
use Rattle.hose_gen.proofs.orders.admission.Goals as goal

pub returns-clause-order : goal.returns-clause-order
returns-clause-order c =
    let start = c.args.draws.now.state in
    let nodes = c.args.nodes in
    let ends = c.in_ok-ends.ends.items in
    let hose = c.in_ok-hose.hose in
    let customer = draw 8 start in
    let count = draw 4 customer.1 in
    let one : c.draw_customer-customer.new.draws.state ≡ customer.1 = c.draw_customer-customer.ensures.state in
    let two : c.draw.new.self.state ≡ count.1 = c.draw.ensures.state ∙ ap (λ (x : ℕ). (draw 4 x).1) one in
    let many : c.draw.result ≡ count.0 = c.draw.ensures.number ∙ ap (λ (x : ℕ). (draw 4 x).0) one in
    let drawn_ends : ends ≡ (first_ends nodes count.1 (2 + count.0)).0 =
    c.in_ok-ends.ensures.ends ∙ ap (λ (x : ℕ). (first_ends nodes x (2 + c.draw.result)).0) two ∙ ap (λ (n : ℕ). (first_ends nodes count.1 (2 + n)).0) many in
    let same : hose ≡ in_order ends = hose_of ends hose c.in_ok-ends.ensures.makes c.in_ok-hose.ensures.hose (rw c.deref.ensures.value at c.in_ok-hose.ensures.same_ends) in
    ap (λ (name : List ℕ). (name, Admit hose)) c.draw_customer-customer.ensures.name
    ∙ ap (λ (es : List Endpoint). (customer_name customer.0, Admit es)) (same ∙ ap in_order drawn_ends)

pub returns-clause-asks : goal.returns-clause-asks
returns-clause-asks c network is =
    All-permutation (λ end. node_of end < length network.nodes) c.in_ok-ends.ends.items c.in_ok-hose.hose (rw c.deref.ensures.value at c.in_ok-hose.ensures.same_ends)
    (All-weaker (λ end. node_of end < c.args.nodes) (λ end. node_of end < length network.nodes) (λ end below. omega (arith, below, is)) c.in_ok-ends.ends.items c.in_ok-ends.ensures.nodes)
