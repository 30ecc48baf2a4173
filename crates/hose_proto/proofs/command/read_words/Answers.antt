use Rattle.std.proofs.Common.{rules}
use Rattle.hose_words.proofs.Forms.{wrong_choice}
use Rattle.hose_proto.specs.Command.{verb_word}
use Rattle.hose_proto.specs.steps.CommandForms.{verb_form}
use Rattle.hose_proto.proofs.Faults.{chosen_fault, handed, is_told}
use Rattle.hose_proto.proofs.Words.{verbs_apart, verbs_told}
use Rattle.hose_proto.proofs.command.read_words.Goals as goal

pub returns-in_err-verb-clause-bad : goal.returns-in_err-verb-clause-bad
returns-in_err-verb-clause-bad c = handed _ c.from_residual.result c.from_residual.ensures.1 (is_told (wrong_choice (c.in_err-verb.ensures.wrong verb_word verbs_told)))

pub returns-clause-bad : goal.returns-clause-bad
returns-clause-bad c = chosen_fault (verb_form c.args.top.now) c.read_after.result c.in_ok-verb.verb tt verbs_apart (c.in_ok-verb.ensures.ok verb_word verbs_told) c.read_after.ensures.bad

pub returns-clause-ok : goal.returns-clause-ok
returns-clause-ok c = let took = c.in_ok-verb.ensures.ok verb_word verbs_told in search rules

pub returns-clause-memory : goal.returns-clause-memory
returns-clause-memory c = let took = c.in_ok-verb.ensures.ok verb_word verbs_told in search rules
