use Rattle.std.proofs.Common.{◌∙◌, ap, subst}
use Rattle.hose_law.specs.Transcript.SessionLine.{Greets}
use Rattle.hose_book.specs.Ledger.{Ledger}
use Rattle.hose_clerk.specs.HostLines.HostLine.{Speaks}
use Rattle.hose_clerk.specs.steps.Shown.{IsGreetedAt}
use Rattle.hose_clerk.proofs.Answered.{greeted, refused}
use Rattle.hose_clerk.proofs.desk.Desk.greet.Goals as goal

pub returns-in-Ok : goal.returns-in-Ok
returns-in-Ok g c =
    let books = c.args.self.now.core.books in
    let at = c.epoch-at.ensures.value ∙ ap (λ (l : Ledger). l.book.epoch) (c.book.ensures ∙ ap g.K.Books.ledger c.books.ensures) in
    record {
      said = Speaks (Greets c.in-Ok.name);
      says = subst (IsGreetedAt c.args.rule c.args.line) c.in-Ok.is c.greeting_at.ensures;
      answers = greeted g.K.Books c.args.self.now.figures.tally books c.in-Ok.name c.new-quotes.result c.epoch-at.result c.new-quotes.ensures at;
    }

pub returns-in-Err : goal.returns-in-Err
returns-in-Err g c =
    let is = subst (IsGreetedAt c.args.rule c.args.line) c.in-Err.is c.greeting_at.ensures in
    record {
      said = Speaks is.0;
      says = is.1;
      answers = refused g.K.Books c.args.self.now.figures.tally c.args.self.now.core.books is.0 c.in-Err.reply is.2;
    }
