use Rattle.std.proofs.Common.{arith}
use Rattle.hose_cert.proofs.Spelling.{no_pot, pot_cut}
use Rattle.hose_cert.proofs.parsing.read_pot.Goals as goal

pub returns-in_default-2-clause-told : goal.returns-in_default-2-clause-told
returns-in_default-2-clause-told c = no_pot c.args.top.now c.args.words.now.left (λ root from numbers cut is_root is_from long up.
    let first = c.in-Some.ensures.some in
    let second = c.in-Some-next_number.ensures.some in
    let network = c.nodes-nodes.ensures.network in
    let left = pot_cut c.args.words.now.left c.next_number.new.words.left c.next_number-2.new.words.left c.in-Some.root c.in-Some-next_number.from root from numbers first.0 second.0 cut
    (omega (arith, second.1, c.nodes-nodes.ensures.count, network.few_nodes, c.from-2.ensures)) (omega (arith, is_from, network.few_nodes)) in
    let none = rw c.in_default-2.is at c.in_ok-numbers.ensures.told in
    none numbers (left.0, omega (arith, long, left.1, c.min-count.ensures, c.nodes-nodes.ensures.count), up))
