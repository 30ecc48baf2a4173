use Rattle.std.proofs.Common.{◌≡◌, Err, map, rules}
use Rattle.std.specs.String.{string_bytes}
use Rattle.hosed_requests.specs.declared.verb.ProgramVerb.TheVariants as command
use Rattle.hosed_requests.specs.steps.Arguments.Operands.{no_more}
use Rattle.hosed_requests.proofs.Commands.{no_topology, topology_then, verb_wrong}
use Rattle.hosed_requests.proofs.words.check_of.Goals as goal

pub returns-in_err-of : goal.returns-in_err-of
returns-in_err-of g c =
    let is : c.from_residual.result ≡ Err c.in_err-of.field-0.0 = search rules in
    rw is (verb_wrong _ command.Check (map string_bytes c.args.words.now) _ tt c.requires (no_topology _ _ _ (λ topology. no_more) c.in_err-of.ensures.wrong))

pub returns-in_err-none_at : goal.returns-in_err-none_at
returns-in_err-none_at g c =
    let is : c.from_residual-in_err-none_at.result ≡ Err c.in_err-none_at.field-0.0 = search rules in
    rw is (verb_wrong _ command.Check (map string_bytes c.args.words.now) _ tt c.requires (topology_then _ _ _ c.in_ok-of.at _ (λ topology. no_more) c.in_ok-of.ensures.ok c.in_err-none_at.ensures.wrong))
