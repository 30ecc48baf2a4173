use Rattle.hose_law.specs.Transcript.SessionLine.{IsBad, Leaves}
use Rattle.hose_clerk.specs.HostLines.HostLine.{Counts, Ends, Speaks}
use Rattle.hose_clerk.proofs.Answered.{bad_answered, bye_answered, count_answered, end_answered}
use Rattle.hose_clerk.proofs.desk.Desk.answer_other.Goals as goal

pub returns-then-is_bye : goal.returns-then-is_bye
returns-then-is_bye g c = record {
  said = Speaks Leaves;
  says = c.is_bye.ensures.0 c.if-is_bye.true;
  answers = bye_answered g.K.Books c.args.self.now.figures.tally c.args.self.now.core.books c.args.client c.requires.kept;
}

pub returns-then-is_end : goal.returns-then-is_end
returns-then-is_end g c = record {
  said = Ends;
  says = c.is_end.ensures.0 c.if-is_end.true;
  answers = end_answered g.K.Books c.args.self.now.figures.tally c.args.self.now.core.books c.args.client c.requires.kept c.end_by-reply.result c.end_by-reply.ensures;
}

pub returns-then-is_count : goal.returns-then-is_count
returns-then-is_count g c = record {
  said = Counts;
  says = c.is_count.ensures.0 c.if-is_count.true;
  answers = count_answered g.K.Books c.args.self.now.figures.tally c.args.self.now.core.books c.args.client c.requires.kept c.figures_for-reply.result c.figures_for-reply.ensures;
}

pub returns : goal.returns
returns g c = record {
  said = Speaks (IsBad c.args.word);
  says = (
    (λ is. cc (c.is_bye.ensures.1 is, c.if-is_bye.false)),
    c.requires.word,
    (λ is. cc (c.is_end.ensures.1 is, c.if-is_end.false)),
    (λ is. cc (c.is_count.ensures.1 is, c.if-is_count.false)),
  );
  answers = bad_answered g.K.Books c.args.self.now.figures.tally c.args.self.now.core.books c.args.client c.requires.kept c.args.word;
}
