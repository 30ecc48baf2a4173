use Rattle.std.proofs.Common.{rules}
use Rattle.std.proofs.lemmas.Result.{IfErr-weaker}
use Rattle.hose_words.proofs.Forms.{wrong_choice}
use Rattle.hose_replies.specs.steps.ReplyLines.{head_word, head_form}
use Rattle.hose_proto.proofs.Faults.{chosen_fault, handed, is_told}
use Rattle.hose_replies.proofs.Words.{heads_apart, heads_told}
use Rattle.hose_replies.proofs.lines.read_words.Goals as goal

pub returns-in_err-head-clause-bad : goal.returns-in_err-head-clause-bad
returns-in_err-head-clause-bad c = handed _ c.from_residual.result c.from_residual.ensures.1 (is_told (wrong_choice (c.in_err-head.ensures.wrong head_word heads_told)))

pub returns-clause-bad : goal.returns-clause-bad
returns-clause-bad c = chosen_fault (head_form c.args.top.now) c.read_after.result c.in_ok-head.head tt heads_apart (c.in_ok-head.ensures.ok head_word heads_told)
    (IfErr-weaker c.read_after.result _ _ (λ fault fails. fails.bad) c.read_after.ensures.fault)

pub returns-clause-ok : goal.returns-clause-ok
returns-clause-ok c = let took = c.in_ok-head.ensures.ok head_word heads_told in search rules

pub returns-clause-memory : goal.returns-clause-memory
returns-clause-memory c = let took = c.in_ok-head.ensures.ok head_word heads_told in search rules
