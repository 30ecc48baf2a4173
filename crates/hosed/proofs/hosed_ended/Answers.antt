use Rattle.std.proofs.Common.{ap, map, refl, rules}
use Rattle.std.specs.String.{string_bytes}
use Rattle.hose_outside.specs.steps.Parts.{held}
use Rattle.hosed_requests.specs.steps.ProgramWords.{task_of}
use Rattle.hosed_requests.specs.declared.verb.ProgramVerb.TheVariants as command
use Rattle.hosed.proofs.Outcomes.{are_wrong, fails_none, fails_of, fails_words, served_of}
use Rattle.hosed_requests.proofs.ProgramShapes.{are_told, no_task, same_server, unfit_wrong}
use Rattle.hosed.proofs.hosed_ended.Goals as goal

pub returns-in-Ok-clause-outcome : goal.returns-in-Ok-clause-outcome
returns-in-Ok-clause-outcome g c =
    let are = c.in-Ok.ensures.ok in
    let right = c.serve.ensures.not_words in
    let told = served_of (held c.serve.new.outside) (ap held c.of-outside.ensures) (search rules) (search rules) (search rules) (rw c.costs_of-costs.ensures at c.serve.ensures.outcome) in
    record {
      offline = λ never. absurd (never (search rules));
      words_at_1 = λ asks. ((λ one. absurd (right one)), λ wrong. absurd (wrong command.Serve _ (are_told _ _ command.Serve (task_of c.in-Ok.request) are)));
      wrong_words = λ asks one. absurd (right one);
      serves = same_server (map (λ tariff. tariff.name) c.args.tariffs.now) (map string_bytes c.args.words.now) _ (task_of c.in-Ok.request) are told;
    }

pub returns-in-Ok-clause-fails : goal.returns-in-Ok-clause-fails
returns-in-Ok-clause-fails g c =
    fails_of (held c.serve.new.outside) (ap held c.of-outside.ensures) (search rules) (search rules) (search rules)
    (fails_words _ _ _ _ c.serve.result _ command.Serve (task_of c.in-Ok.request) c.in-Ok.ensures.ok (rw c.costs_of-costs.ensures at c.serve.ensures.fails))

pub returns-in-Err-clause-fails : goal.returns-in-Err-clause-fails
returns-in-Err-clause-fails g c = fails_none _ _ _ _ _ _ _ c.in-Err.ensures.wrong

pub returns-in-Ok-clause-names : goal.returns-in-Ok-clause-names
returns-in-Ok-clause-names g c = c.server_named.ensures _ _ c.in-Ok.ensures.ok

pub serve-requires-clause-workers : goal.serve-requires-clause-workers
serve-requires-clause-workers g c = λ _ _. c.in-Ok.ensures.ok.may.2.1.1.1.0.0

pub returns-in-Err-clause-outcome : goal.returns-in-Err-clause-outcome
returns-in-Err-clause-outcome g c =
    let wrong = c.in-Err.ensures.wrong in
    record {
      offline = λ never. absurd (never (search rules));
      words_at_1 = λ asks. ((λ one. are_wrong _ _ _ wrong), λ none. c.end.ensures.status);
      wrong_words = λ asks one. (record { input = refl; cabinet = refl; door = refl }, (_, unfit_wrong _ _ _ wrong, c.end.ensures.last_line));
      serves = λ task are. absurd (no_task _ _ command.Serve task _ are wrong);
    }

pub returns-in-Err-clause-names : goal.returns-in-Err-clause-names
returns-in-Err-clause-names g c = are_wrong _ _ _ c.in-Err.ensures.wrong
