use Rattle.std.proofs.Common.{arith}
use Rattle.std.proofs.lemmas.List.{length-map}
use Rattle.hosed_requests.specs.declared.verb.ProgramVerb.TheVariants as command
use Rattle.hosed_requests.proofs.Commands.{first_small}
use Rattle.hosed.proofs.Outcomes.{fails_words, proof_words, right_words}
use Rattle.hosed.proofs.doing.do_request.Goals as goal

pub returns-in-Run-clause-outcome : goal.returns-in-Run-clause-outcome
returns-in-Run-clause-outcome g c = λ words are. right_words _ _ _ _ _ _ command.Run _ (rw c.in-Run.is at are) c.run.ensures.not_words (rw (c.costs_of-by.ensures, c.tariff_of.ensures, c.in-Run.is) at c.run.ensures.outcome)

pub returns-in-Audit-clause-outcome : goal.returns-in-Audit-clause-outcome
returns-in-Audit-clause-outcome g c = λ words are. right_words _ _ _ _ _ _ command.Audit _ (rw c.in-Audit.is at are) c.audit.ensures.not_words (rw (c.costs_of-by.ensures, c.tariff_of.ensures, c.in-Audit.is) at c.audit.ensures.outcome)

pub returns-in-Check-clause-outcome : goal.returns-in-Check-clause-outcome
returns-in-Check-clause-outcome g c = λ words are. right_words _ _ _ _ _ _ command.Check _ (rw c.in-Check.is at are) c.check.ensures.not_words (rw (c.costs_of-by.ensures, c.tariff_of.ensures, c.in-Check.is) at c.check.ensures.outcome)

pub returns-in-Ship-clause-outcome : goal.returns-in-Ship-clause-outcome
returns-in-Ship-clause-outcome g c = λ words are. right_words _ _ _ _ _ _ command.Ship _ (rw c.in-Ship.is at are) c.ship.ensures.not_words (rw (c.costs_of-by.ensures, c.tariff_of.ensures, c.in-Ship.is) at c.ship.ensures.outcome)

pub returns-in-Follow-clause-outcome : goal.returns-in-Follow-clause-outcome
returns-in-Follow-clause-outcome g c = λ words are. right_words _ _ _ _ _ _ command.Follow _ (rw c.in-Follow.is at are) c.follow.ensures.not_words (rw (c.costs_of-by.ensures, c.tariff_of.ensures, c.in-Follow.is) at c.follow.ensures.outcome)

pub returns-in-Cut-clause-outcome : goal.returns-in-Cut-clause-outcome
returns-in-Cut-clause-outcome g c = λ words are. right_words _ _ _ _ _ _ command.Cut _ (rw c.in-Cut.is at are) c.cut_journal.ensures.not_words (rw (c.costs_of-by.ensures, c.tariff_of.ensures, c.in-Cut.is) at c.cut_journal.ensures.outcome)

pub returns-in-Move-clause-outcome : goal.returns-in-Move-clause-outcome
returns-in-Move-clause-outcome g c = λ words are. right_words _ _ _ _ _ _ command.Move _ (rw c.in-Move.is at are) c.move_journal.ensures.not_words (rw (c.costs_of-by.ensures, c.tariff_of.ensures, c.in-Move.is) at c.move_journal.ensures.outcome)

pub returns-in-Generate-clause-outcome : goal.returns-in-Generate-clause-outcome
returns-in-Generate-clause-outcome g c = λ words are. right_words _ _ _ _ _ _ command.Generate _ (rw c.in-Generate.is at are) c.run_generated.ensures.not_words c.run_generated.ensures.outcome

pub returns-in-Price-clause-outcome : goal.returns-in-Price-clause-outcome
returns-in-Price-clause-outcome g c = λ words are. right_words _ _ _ _ _ _ command.Price _ (rw c.in-Price.is at are) c.price.ensures.not_words c.price.ensures.outcome

pub returns-in-Prove-clause-outcome : goal.returns-in-Prove-clause-outcome
returns-in-Prove-clause-outcome g c = λ words are.
    let prove = rw c.in-Prove.is at are in
    proof_words _ _ _ _ _ _ _ prove.0 (rw (c.costs_of-by.ensures, c.tariff_of.ensures, c.in-Prove.is, prove.1) at c.prove.ensures.outcome)

pub returns-in-Run-clause-fails : goal.returns-in-Run-clause-fails
returns-in-Run-clause-fails g c = λ words are. fails_words _ _ _ _ _ _ command.Run _ (rw c.in-Run.is at are) tt

pub returns-in-Audit-clause-fails : goal.returns-in-Audit-clause-fails
returns-in-Audit-clause-fails g c = λ words are. fails_words _ _ _ _ _ _ command.Audit _ (rw c.in-Audit.is at are) (rw (c.costs_of-by.ensures, c.tariff_of.ensures, c.in-Audit.is) at c.audit.ensures.fails)

pub returns-in-Check-clause-fails : goal.returns-in-Check-clause-fails
returns-in-Check-clause-fails g c = λ words are. fails_words _ _ _ _ _ _ command.Check _ (rw c.in-Check.is at are) tt

pub returns-in-Ship-clause-fails : goal.returns-in-Ship-clause-fails
returns-in-Ship-clause-fails g c = λ words are. fails_words _ _ _ _ _ _ command.Ship _ (rw c.in-Ship.is at are) (rw (c.costs_of-by.ensures, c.tariff_of.ensures, c.in-Ship.is) at c.ship.ensures.fails)

pub returns-in-Follow-clause-fails : goal.returns-in-Follow-clause-fails
returns-in-Follow-clause-fails g c = λ words are. fails_words _ _ _ _ _ _ command.Follow _ (rw c.in-Follow.is at are) (rw (c.costs_of-by.ensures, c.tariff_of.ensures, c.in-Follow.is) at c.follow.ensures.fails)

pub returns-in-Cut-clause-fails : goal.returns-in-Cut-clause-fails
returns-in-Cut-clause-fails g c = λ words are. fails_words _ _ _ _ _ _ command.Cut _ (rw c.in-Cut.is at are) (rw (c.costs_of-by.ensures, c.tariff_of.ensures, c.in-Cut.is) at c.cut_journal.ensures.fails)

pub returns-in-Move-clause-fails : goal.returns-in-Move-clause-fails
returns-in-Move-clause-fails g c = λ words are. fails_words _ _ _ _ _ _ command.Move _ (rw c.in-Move.is at are) (rw (c.costs_of-by.ensures, c.tariff_of.ensures, c.in-Move.is) at c.move_journal.ensures.fails)

pub returns-in-Generate-clause-fails : goal.returns-in-Generate-clause-fails
returns-in-Generate-clause-fails g c = λ words are. fails_words _ _ _ _ _ _ command.Generate _ (rw c.in-Generate.is at are) tt

pub returns-in-Price-clause-fails : goal.returns-in-Price-clause-fails
returns-in-Price-clause-fails g c = λ words are. fails_words _ _ _ _ _ _ command.Price _ (rw c.in-Price.is at are) tt

pub returns-in-Prove-clause-fails : goal.returns-in-Prove-clause-fails
returns-in-Prove-clause-fails g c = λ words are. fails_words _ _ _ _ _ _ command.Prove _ (rw c.in-Prove.is at are).0 tt

pub run_generated-requires : goal.run_generated-requires
run_generated-requires g c =
    let may = (rw c.in-Generate.is at c.requires.words.1).may in (
      c.type_bounds.send-C-Disk,
      record {
        enough_nodes = may.1.0.0.0;
        few_nodes = may.1.0.0.1;
        enough_links = omega (arith, may.1.1.0.0.0);
        few_links = may.1.1.0.0.1;
        few_hoses = may.1.1.1.0.0.1;
      },
    )

pub prove-requires-clause-ends : goal.prove-requires-clause-ends
prove-requires-clause-ends g c = λ _ _. (rw c.in-Prove.is at c.requires.words.1).0.may.2

pub prove-requires-clause-first : goal.prove-requires-clause-first
prove-requires-clause-first g c = λ _ _. first_small c.in-Prove.of.tariff c.in-Prove.first (rw c.in-Prove.is at c.requires.words.1).1

pub price-requires-clause-some : goal.price-requires-clause-some
price-requires-clause-some g c = omega (arith, (rw c.in-Price.is at c.requires.words.1).available.0, length-map c.args.tariffs.now (λ tariff. tariff.name))

pub price-requires-clause-few : goal.price-requires-clause-few
price-requires-clause-few g c = omega (arith, (rw c.in-Price.is at c.requires.words.1).available.1, length-map c.args.tariffs.now (λ tariff. tariff.name))
