use Rattle.std.proofs.Common.{map, subst}
use Rattle.std.specs.String.{string_bytes}
use Rattle.hosed_requests.specs.ProgramWords.{AsksFor}
use Rattle.hosed_requests.specs.declared.verb.ProgramVerb.{ProgramVerb}
use Rattle.hosed_requests.specs.declared.verb.ProgramVerb.TheVariants as command
use Rattle.hosed_requests.proofs.Commands.{one_verb}
use Rattle.hosed_requests.proofs.verb.asks_to_serve.Goals as goal

pub returns-in-Some : goal.returns-in-Some
returns-in-Some c =
    let words = map string_bytes c.args.words.now in
    let told = c.in-Some.ensures.some in (
      (λ yes. subst (λ (verb : ProgramVerb). AsksFor verb words) (c.is_serve.ensures.0 yes) told),
      (λ asks. c.is_serve.ensures.1 (one_verb c.in-Some.verb command.Serve words told asks)),
    )

pub returns-in-None : goal.returns-in-None
returns-in-None c = ((λ yes. absurd (cc yes)), (λ asks. absurd (c.in-None.ensures.none command.Serve asks)))
