use Rattle.std.proofs.Common.{◌≡◌, Err, map, rules}
use Rattle.std.specs.String.{string_bytes}
use Rattle.hosed_requests.specs.declared.verb.ProgramVerb.TheVariants as command
use Rattle.hosed_requests.specs.steps.Arguments.Operands.{no_more}
use Rattle.hosed_requests.proofs.Commands.{file_wrong, no_file_named, not_offered, verb_wrong}
use Rattle.hosed_requests.proofs.words.price_of.Goals as goal

pub returns-then-not-are_priceable : goal.returns-then-not-are_priceable
returns-then-not-are_priceable g c = not_offered _ (map string_bytes c.args.words.now) c.requires (search rules)

pub returns-in_err-topology : goal.returns-in_err-topology
returns-in_err-topology g c =
    let words = map string_bytes c.args.words.now in
    let is : c.from_residual.result ≡ Err c.in_err-topology.field-0.0 = search rules in
    rw is (verb_wrong _ command.Price words _ (search rules) c.requires (no_file_named (λ topology. no_more) c.in_err-topology.ensures.wrong))

pub returns-in_err-none_at : goal.returns-in_err-none_at
returns-in_err-none_at g c =
    let words = map string_bytes c.args.words.now in
    let is : c.from_residual-in_err-none_at.result ≡ Err c.in_err-none_at.field-0.0 = search rules in
    rw is (verb_wrong _ command.Price words _ (search rules) c.requires (file_wrong (λ topology. no_more) _ c.in_ok-topology.ensures.named c.in_ok-topology.ensures.ok c.in_err-none_at.ensures.wrong))
