use Rattle.std.proofs.Common.{Err, refl, sym, ◌∙◌, ap, subst, rules}
use Rattle.hose_words.specs.Shapes.{IsFirstWrong}
use Rattle.hose_words.specs.Words.{words_of}
use Rattle.hose_words.specs.declared.lines.Line.{Line}
use Rattle.hose_graph.specs.Network.{Network}
use Rattle.hose_law.specs.Script.{ReadLine}
use Rattle.hose_law.specs.Script.ReadLine.{Asks, IsBad}
use Rattle.hose_offline.specs.ScriptLine.{IsAsking, script_shape}
use Rattle.hose_offline.specs.steps.Talking.{SaysRead}
use Rattle.hose_offline.proofs.OneReading.{text_alone}
use Rattle.hose_offline.proofs.answering.reply_to.Goals as goal

pub returns-in-Ok-clause-answers : goal.returns-in-Ok-clause-answers
returns-in-Ok-clause-answers g c =
    let network = (g.K.Books.ledger c.args.core.now.books).network in
    let said : ReadLine = Asks c.in-Ok.asked.0 c.in-Ok.asked.1 in
    let asks : IsAsking network c.in-Text.text.now c.in-Ok.asked.0 c.in-Ok.asked.1 =
    subst (λ (n : Network). IsAsking n c.in-Text.text.now c.in-Ok.asked.0 c.in-Ok.asked.1) c.topology_of.ensures c.in-Ok.ensures.ok in
    (said, subst (λ (l : Line). SaysRead network l said) (sym c.in-Text.is) asks, (c.step.ensures.step, c.step.ensures.network, c.step.ensures.met))

pub returns-in-Err-Bad-clause-answers : goal.returns-in-Err-Bad-clause-answers
returns-in-Err-Bad-clause-answers g c =
    let network = (g.K.Books.ledger c.args.core.now.books).network in
    let word = c.in-Err-Bad.word in
    let wrong : IsFirstWrong (script_shape network) (words_of c.in-Text.text.now) word =
    subst (λ (n : Network). IsFirstWrong (script_shape n) (words_of c.in-Text.text.now) word) c.topology_of.ensures (c.read_line.ensures.bad word (c.in-Err-Bad.is ∙ ap Err c.in-Err-Bad.field-0-is)) in
    (IsBad word, subst (λ (l : Line). SaysRead network l (IsBad word)) (sym c.in-Text.is) wrong, (search rules, refl {a = c.args.core.now}))

pub returns-in-Ok-clause-alone : goal.returns-in-Ok-clause-alone
returns-in-Ok-clause-alone g c =
    text_alone c.topology_of.result.now (g.K.Books.ledger c.args.core.now.books).network c.in-Text.text c.args.line c.topology_of.ensures c.in-Text.is c.read_line.ensures.alone

pub returns-in-Err-Bad-clause-alone : goal.returns-in-Err-Bad-clause-alone
returns-in-Err-Bad-clause-alone g c =
    text_alone c.topology_of.result.now (g.K.Books.ledger c.args.core.now.books).network c.in-Text.text c.args.line c.topology_of.ensures c.in-Text.is c.read_line.ensures.alone

pub returns-in-Err-Memory-clause-alone : goal.returns-in-Err-Memory-clause-alone
returns-in-Err-Memory-clause-alone g c =
    text_alone c.topology_of.result.now (g.K.Books.ledger c.args.core.now.books).network c.in-Text.text c.args.line c.topology_of.ensures c.in-Text.is c.read_line.ensures.alone
