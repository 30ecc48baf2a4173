use Rattle.std.proofs.Common.{rules}
use Rattle.hose_cert.specs.steps.Statement.{statement_word}
use Rattle.hose_cert.proofs.KindWords.{kinds_told}
use Rattle.hose_cert.proofs.Spelling.{told_after}
use Rattle.hose_cert.specs.declared.statement.StatementKind.TheVariants as kind
use Rattle.hose_cert.proofs.parsing.read_words.Goals as goal

pub returns-in-Cost-clause-told : goal.returns-in-Cost-clause-told
returns-in-Cost-clause-told c =
    told_after c.args.top.now c.args.words.now.left c.next_choice.new.words.left c.in-Ok.kind kind.Cost (c.in-Ok.ensures.ok statement_word kinds_told).cut c.in-Cost.is c.read_cost.result (c.read_cost.ensures c.args.top.now)

pub returns-in-End-clause-told : goal.returns-in-End-clause-told
returns-in-End-clause-told c =
    told_after c.args.top.now c.args.words.now.left c.next_choice.new.words.left c.in-Ok.kind kind.End (c.in-Ok.ensures.ok statement_word kinds_told).cut c.in-End.is c.read_end.result (c.read_end.ensures c.args.top.now)

pub returns-in_default-clause-told : goal.returns-in_default-clause-told
returns-in_default-clause-told c = let missed = c.in_default.ensures.wrong statement_word kinds_told in search rules

pub returns-in-Hose-clause-told : goal.returns-in-Hose-clause-told
returns-in-Hose-clause-told c = let took = c.in-Ok.ensures.ok statement_word kinds_told in search rules

pub returns-in-Use-clause-told : goal.returns-in-Use-clause-told
returns-in-Use-clause-told c = let took = c.in-Ok.ensures.ok statement_word kinds_told in search rules

pub returns-in-Without-clause-told : goal.returns-in-Without-clause-told
returns-in-Without-clause-told c = let took = c.in-Ok.ensures.ok statement_word kinds_told in search rules

pub returns-in-Pot-clause-told : goal.returns-in-Pot-clause-told
returns-in-Pot-clause-told c = let took = c.in-Ok.ensures.ok statement_word kinds_told in search rules
