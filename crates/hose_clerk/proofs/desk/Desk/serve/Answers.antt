use Rattle.std.proofs.Common.{◌≡◌, ◌∙◌, Err, ℕ, ap, arith, subst}
use Rattle.hose_words.specs.Shapes.{IsFirstWrong}
use Rattle.hose_words.specs.Words.{words_of}
use Rattle.hose_words.specs.declared.lines.Line.{Line}
use Rattle.hose_words.specs.steps.Lines.{Shows}
use Rattle.hose_graph.specs.Network.{Network}
use Rattle.hose_law.specs.Transcript.SessionLine.{Asks, IsLong, Unread}
use Rattle.hose_proto.specs.Command.{IsCommand, command_shape}
use Rattle.hose_clerk.specs.HostLines.HostLine.{Speaks}
use Rattle.hose_clerk.proofs.Answered.{long_answered, memory_answered, says_text}
use Rattle.hose_clerk.proofs.desk.Desk.serve.Goals as goal

pub returns-in_default-clause-answers : goal.returns-in_default-clause-answers
returns-in_default-clause-answers g c = record {
  said = Speaks IsLong;
  says = λ bytes shows. subst (λ (l : Line). Shows l bytes) c.in_default.is shows;
  answers = long_answered g.K.Books c.args.self.now.figures.tally c.args.self.now.core.books c.args.client c.requires;
}

pub returns-in-Err-Memory-clause-answers : goal.returns-in-Err-Memory-clause-answers
returns-in-Err-Memory-clause-answers g c = record {
  said = Speaks Unread;
  says = says_text (g.K.Books.ledger c.args.self.now.core.books).network c.args.line c.in-Text.text (Speaks Unread) c.in-Text.is (c.read_command.ensures.memory (c.in-Err-Memory.is ∙ ap Err c.in-Err-Memory.field-0-is));
  answers = memory_answered g.K.Books c.args.self.now.figures.tally c.args.self.now.core.books c.args.client c.requires;
}

pub answer_other-requires-clause-word : goal.answer_other-requires-clause-word
answer_other-requires-clause-word g c =
    let word : ℕ = c.in-Err-Bad.word in
    let told = c.read_command.ensures.bad word (c.in-Err-Bad.is ∙ ap Err c.in-Err-Bad.field-0-is) in
    let at : told.0 ≡ word = omega (arith, told.1) in
    let first = subst (λ (w : ℕ). IsFirstWrong (command_shape c.topology_of.result.now) (words_of c.in-Text.text.now) w) at told.2 in
    subst (λ (n : Network). IsFirstWrong (command_shape n) (words_of c.in-Text.text.now) word) c.topology_of.ensures first

pub returns-in-Ok-clause-answers : goal.returns-in-Ok-clause-answers
returns-in-Ok-clause-answers g c =
    let network = (g.K.Books.ledger c.args.self.now.core.books).network in
    let asks = subst (λ (n : Network). IsCommand n (words_of c.in-Text.text.now) c.in-Ok.command) c.topology_of.ensures c.in-Ok.ensures.ok in
    record {
      said = Speaks (Asks c.in-Ok.command);
      says = says_text network c.args.line c.in-Text.text (Speaks (Asks c.in-Ok.command)) c.in-Text.is asks;
      answers = c.ask.ensures.answers;
    }

pub returns-in-Err-Bad-clause-answers : goal.returns-in-Err-Bad-clause-answers
returns-in-Err-Bad-clause-answers g c =
    let network = (g.K.Books.ledger c.args.self.now.core.books).network in
    let other = c.answer_other.ensures in
    record {
      said = other.said;
      says = says_text network c.args.line c.in-Text.text other.said c.in-Text.is other.says;
      answers = other.answers;
    }
