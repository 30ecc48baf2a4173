use Rattle.std.proofs.Common.{ap, refl, rules}
use Rattle.hose_outside.specs.Parts.{parts}
use Rattle.hose_outside.specs.steps.Parts.{held}
use Rattle.hosed.proofs.Outcomes.{are_wrong, fails_none, fails_of, told_of, wrong_words}
use Rattle.hosed.proofs.offline_ended.Goals as goal

pub returns-in-Ok-clause-outcome : goal.returns-in-Ok-clause-outcome
returns-in-Ok-clause-outcome g c = told_of (held c.do_request.new.outside) (ap held c.of-outside.ensures) (search rules) (search rules) (search rules) (c.do_request.ensures.outcome _ c.in-Ok.ensures)

pub returns-in-Ok-clause-fails : goal.returns-in-Ok-clause-fails
returns-in-Ok-clause-fails g c = fails_of (held c.do_request.new.outside) (ap held c.of-outside.ensures) (search rules) (search rules) (search rules) (c.do_request.ensures.fails _ c.in-Ok.ensures)

pub returns-in-Err-clause-fails : goal.returns-in-Err-clause-fails
returns-in-Err-clause-fails g c = fails_none _ _ _ _ _ _ _ c.in-Err.ensures

pub returns-in-Ok-clause-names : goal.returns-in-Ok-clause-names
returns-in-Ok-clause-names g c = c.named_of.ensures _ _ c.in-Ok.ensures

pub do_request-requires-clause-words : goal.do_request-requires-clause-words
do_request-requires-clause-words g c = λ _ _. (_, c.in-Ok.ensures)

pub returns-in-Err-clause-outcome : goal.returns-in-Err-clause-outcome
returns-in-Err-clause-outcome g c =
    let before = parts c.args.input.now c.args.output.now c.args.cabinet.now in
    let after = parts c.args.input.now c.end.new.output c.args.cabinet.now in
    wrong_words _ _ before after _ _ _ c.in-Err.ensures refl refl c.end.ensures.status c.end.ensures.last_line

pub returns-in-Err-clause-names : goal.returns-in-Err-clause-names
returns-in-Err-clause-names g c = are_wrong _ _ _ c.in-Err.ensures
