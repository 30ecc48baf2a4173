use Rattle.hose_offline.proofs.Exchanges.{answered_more, says_shown}
use Rattle.hose_offline.proofs.answering.ClerkAnswers.answer.Goals as goal

pub returns-clause-answers : goal.returns-clause-answers
returns-clause-answers g c = λ from lines replies has.
    let old = c.args.self.now.core in
    let new = c.reply_to.new.core in
    let answers = c.reply_to.ensures.answers in (
      answers.0,
      (λ bytes shows. (says_shown (g.K.Books.ledger old.books).network c.args.line bytes answers.0 shows answers.1, c.reply_to.ensures.alone bytes shows)),
      answered_more g.K.Books from.0 from.1.core old new lines replies has answers.0 c.reply_to.result answers.2,
    )
