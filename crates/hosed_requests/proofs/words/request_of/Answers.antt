use Rattle.std.proofs.Common.{◌≡◌, Err, map, rules}
use Rattle.std.specs.String.{string_bytes}
use Rattle.hosed_requests.specs.ProgramWords.{AsksFor}
use Rattle.hosed_requests.specs.declared.verb.ProgramVerb.TheVariants as command
use Rattle.hosed_requests.proofs.Commands.{no_verb, verb_wrong}
use Rattle.hosed_requests.proofs.words.request_of.Goals as goal

pub returns-in_err-journal_of-in-Some-Audit : goal.returns-in_err-journal_of-in-Some-Audit
returns-in_err-journal_of-in-Some-Audit g c =
    let asks : AsksFor command.Audit (map string_bytes c.args.words.now) = search rules in
    let is : c.from_residual.result ≡ Err c.in_err-journal_of-in-Some-Audit.field-0.0 = search rules in
    rw is (verb_wrong _ command.Audit (map string_bytes c.args.words.now) _ tt asks c.in_err-journal_of-in-Some-Audit.ensures.wrong)

pub returns-in_err-journal_of-in-Some-Follow : goal.returns-in_err-journal_of-in-Some-Follow
returns-in_err-journal_of-in-Some-Follow g c =
    let asks : AsksFor command.Follow (map string_bytes c.args.words.now) = search rules in
    let is : c.from_residual-in_err-journal_of-in-Some-Follow.result ≡ Err c.in_err-journal_of-in-Some-Follow.field-0.0 = search rules in
    rw is (verb_wrong _ command.Follow (map string_bytes c.args.words.now) _ tt asks c.in_err-journal_of-in-Some-Follow.ensures.wrong)

pub returns-in-Some-Generate : goal.returns-in-Some-Generate
returns-in-Some-Generate g c = c.generate_of.ensures _

pub returns-in-None : goal.returns-in-None
returns-in-None g c = no_verb _ (map string_bytes c.args.words.now) (λ verb offered asks. c.in-None.ensures.none verb asks)
