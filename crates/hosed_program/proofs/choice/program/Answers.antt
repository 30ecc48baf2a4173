use Rattle.std.proofs.Common.{refl, rules}
use Rattle.hosed.proofs.Outcomes.{beside_door}
use Rattle.hosed_program.proofs.choice.program.Goals as goal

pub returns-in-Help-clause-outcome : goal.returns-in-Help-clause-outcome
returns-in-Help-clause-outcome g c = record {
  help = λ is. (record { input = refl; cabinet = refl; door = refl }, c.tell.ensures.out);
  version = λ is. absurd (cc (c.text_or_command.ensures, c.in-Help.is, is));
  command = λ is. absurd (cc (c.text_or_command.ensures, c.in-Help.is, is));
}

pub returns-in-Version-clause-outcome : goal.returns-in-Version-clause-outcome
returns-in-Version-clause-outcome g c = record {
  help = λ is. absurd (cc (c.text_or_command.ensures, c.in-Version.is, is));
  version = λ is. (record { input = refl; cabinet = refl; door = refl }, c.tell-in-Version.ensures.out);
  command = λ is. absurd (cc (c.text_or_command.ensures, c.in-Version.is, is));
}

pub returns-in-Command-clause-outcome : goal.returns-in-Command-clause-outcome
returns-in-Command-clause-outcome g c = record {
  help = λ is. absurd (cc (c.text_or_command.ensures, c.in-Command.is, is));
  version = λ is. absurd (cc (c.text_or_command.ensures, c.in-Command.is, is));
  command = λ is. c.hosed_ended.ensures.outcome;
}

pub returns-in-Command-2-clause-outcome : goal.returns-in-Command-2-clause-outcome
returns-in-Command-2-clause-outcome g c = record {
  help = λ is. absurd (cc (c.text_or_command.ensures, c.in-Command-2.is, is));
  version = λ is. absurd (cc (c.text_or_command.ensures, c.in-Command-2.is, is));
  command = λ is. beside_door _ _ _ _ _ _ _ (search rules) c.offline_ended.ensures.outcome;
}
