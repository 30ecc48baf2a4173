use Rattle.std.proofs.Common.{◌≡◌, ℕ, ◌-◌, ◌^◌, Err, arith, map, rules}
use Rattle.std.specs.String.{string_bytes}
use Rattle.hose_gen.specs.Limits.{least_nodes, most_hoses}
use Rattle.hose_graph.specs.Limits.{most_links, most_nodes}
use Rattle.hosed_requests.specs.steps.Arguments.{Operands, number_operand}
use Rattle.hosed_requests.specs.steps.Arguments.Operand.{number_within}
use Rattle.hosed_requests.specs.steps.Arguments.Operands.{no_more}
use Rattle.hosed_requests.specs.declared.verb.ProgramVerb.TheVariants as command
use Rattle.hosed_requests.proofs.Commands.{no_number, value_then, verb_wrong}
use Rattle.hosed_requests.proofs.words.generate_of.Goals as goal

-- what stands after the numbers of hoses, of links, of nodes, and after the seed
abbrev of_links : ℕ → Operands
of_links links = number_operand 0 most_hoses (λ hoses. no_more)

abbrev of_nodes : ℕ → Operands
of_nodes nodes = number_operand (nodes - 1) most_links of_links

abbrev of_seed : ℕ → Operands
of_seed seed = number_operand least_nodes most_nodes of_nodes

pub returns-in_err-seed : goal.returns-in_err-seed
returns-in_err-seed c =
    let is : c.from_residual.result ≡ Err c.in_err-seed.field-0.0 = search rules in
    rw is (λ names. verb_wrong names command.Generate (map string_bytes c.args.words.now) _ tt c.requires (no_number 0 (2 ^ 64 - 1) of_seed c.in_err-seed.ensures.wrong))

pub returns-in_err-nodes : goal.returns-in_err-nodes
returns-in_err-nodes c =
    let is : c.from_residual-in_err-nodes.result ≡ Err c.in_err-nodes.field-0.0 = search rules in
    rw is (λ names. verb_wrong names command.Generate (map string_bytes c.args.words.now) _ tt c.requires
    (value_then (number_within 0 (2 ^ 64 - 1)) of_seed c.in_ok-seed.seed (c.in_ok-seed.ensures.within, omega (arith, c.in_ok-seed.ensures.within)) c.in_ok-seed.ensures.ok
    (no_number least_nodes most_nodes of_nodes c.in_err-nodes.ensures.wrong)))

pub returns-in_err-links : goal.returns-in_err-links
returns-in_err-links c =
    let is : c.from_residual-in_err-links.result ≡ Err c.in_err-links.field-0.0 = search rules in
    rw is (λ names. verb_wrong names command.Generate (map string_bytes c.args.words.now) _ tt c.requires
    (value_then (number_within 0 (2 ^ 64 - 1)) of_seed c.in_ok-seed.seed (c.in_ok-seed.ensures.within, omega (arith, c.in_ok-seed.ensures.within)) c.in_ok-seed.ensures.ok
    (value_then (number_within least_nodes most_nodes) of_nodes c.in_ok-nodes.nodes (c.in_ok-nodes.ensures.within, omega (arith, c.in_ok-nodes.ensures.within)) c.in_ok-nodes.ensures.ok
    (no_number (c.in_ok-nodes.nodes - 1) most_links of_links c.in_err-links.ensures.wrong))))

pub returns-in_err-hoses : goal.returns-in_err-hoses
returns-in_err-hoses c =
    let is : c.from_residual-in_err-hoses.result ≡ Err c.in_err-hoses.field-0.0 = search rules in
    rw is (λ names. verb_wrong names command.Generate (map string_bytes c.args.words.now) _ tt c.requires
    (value_then (number_within 0 (2 ^ 64 - 1)) of_seed c.in_ok-seed.seed (c.in_ok-seed.ensures.within, omega (arith, c.in_ok-seed.ensures.within)) c.in_ok-seed.ensures.ok
    (value_then (number_within least_nodes most_nodes) of_nodes c.in_ok-nodes.nodes (c.in_ok-nodes.ensures.within, omega (arith, c.in_ok-nodes.ensures.within)) c.in_ok-nodes.ensures.ok
    (value_then (number_within (c.in_ok-nodes.nodes - 1) most_links) of_links c.in_ok-links.links (c.in_ok-links.ensures.within, omega (arith, c.in_ok-links.ensures.within)) c.in_ok-links.ensures.ok
    (no_number 0 most_hoses (λ hoses. no_more) c.in_err-hoses.ensures.wrong)))))

pub returns-in_err-none_at : goal.returns-in_err-none_at
returns-in_err-none_at c =
    let is : c.from_residual-in_err-none_at.result ≡ Err c.in_err-none_at.field-0.0 = search rules in
    rw is (λ names. verb_wrong names command.Generate (map string_bytes c.args.words.now) _ tt c.requires
    (value_then (number_within 0 (2 ^ 64 - 1)) of_seed c.in_ok-seed.seed (c.in_ok-seed.ensures.within, omega (arith, c.in_ok-seed.ensures.within)) c.in_ok-seed.ensures.ok
    (value_then (number_within least_nodes most_nodes) of_nodes c.in_ok-nodes.nodes (c.in_ok-nodes.ensures.within, omega (arith, c.in_ok-nodes.ensures.within)) c.in_ok-nodes.ensures.ok
    (value_then (number_within (c.in_ok-nodes.nodes - 1) most_links) of_links c.in_ok-links.links (c.in_ok-links.ensures.within, omega (arith, c.in_ok-links.ensures.within)) c.in_ok-links.ensures.ok
    (value_then (number_within 0 most_hoses) (λ hoses. no_more) c.in_ok-hoses.hoses (c.in_ok-hoses.ensures.within, omega (arith, c.in_ok-hoses.ensures.within)) c.in_ok-hoses.ensures.ok
    c.in_err-none_at.ensures.wrong)))))
