use Rattle.std.proofs.Common.{◌≡◌, ◌≢◌, ◌∙◌, rules, arith}
use Rattle.std.proofs.lemmas.List.{take_all}
use Rattle.std.proofs.lemmas.List.Elements.{All-more}
use Rattle.hose_proto.proofs.Words.{no_choice, row_word}
use Rattle.hose_proto.proofs.choices.with_word.Goals as goal

pub loop-row-preserved : goal.loop-row-preserved
loop-row-preserved g c =
    All-more (λ row. row.1.now ≢ c.args.word.now) c.args.table.now c.loop-row.row-index c.row-item.result c.loop-row-test.true c.loop-row.invariant (rw (← c.row-item.is) (search rules))

pub returns-clause-none : goal.returns-clause-none
returns-clause-none g c = λ word_of are.
    no_choice word_of c.args.table.now c.args.word.now are (rw (take_all c.loop-row.row-index c.args.table.now (omega (arith, c.loop-row-test.false))) at c.loop-row.invariant)

pub returns-then-eq-clause-some : goal.returns-then-eq-clause-some
returns-then-eq-clause-some g c = λ word_of are.
    let same : c.args.word.now ≡ c.row-item.result.1.now = search rules in
    same ∙ row_word word_of c.args.table.now c.loop-row.row-index c.row-item.result are c.loop-row-test.true c.row-item.is
