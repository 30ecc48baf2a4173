use Rattle.std.proofs.Common.{◌∙◌, ap, inl, inr, refl, rules, subst, sym}
use Rattle.hose_book.specs.steps.Commit.{IsMet}
use Rattle.hose_book.specs.Ledger.{Ledger}
use Rattle.hose_book.specs.declared.books.Committed.{Committed}
use Rattle.hose_graph.specs.declared.command.Reply.TheVariants.{Disk}
use Rattle.hose_core.proofs.Answering.{by_the_book, told_by_the_book}
use Rattle.hose_core.proofs.entering.enter.Goals as goal

pub returns-in-Disk-clause-told : goal.returns-in-Disk-clause-told
returns-in-Disk-clause-told g c =
    let here = c.epoch-at.ensures.value ∙ ap (λ (l : Ledger). l.book.epoch) (c.book.ensures ∙ c.in-Disk.ensures.commits) in
    inr (ap Disk here, refl, ap (λ (l : Ledger). l.book) c.in-Disk.ensures.commits)

pub returns-in-Done-clause-goes : goal.returns-in-Done-clause-goes
returns-in-Done-clause-goes g c = subst (λ (result : Committed). g.K.Books.went c.args.books.now c.args.entry result c.commit.new.self) (sym (by_the_book c.args.told c.requires.told)) c.in-Done.ensures.went

pub returns-in-Done-clause-told : goal.returns-in-Done-clause-told
returns-in-Done-clause-told g c = inl (refl, ap (λ (l : Ledger). l.book) c.in-Done.ensures.commits)

pub returns-in-Done-clause-answered : goal.returns-in-Done-clause-answered
returns-in-Done-clause-answered g c = record {
  network = search rules;
  ledger = search rules;
  met = subst (λ (result : Committed). IsMet (g.K.Books.frame c.args.books.now) result (g.K.Books.frame c.commit.new.self)) (sym (by_the_book c.args.told c.requires.told)) c.in-Done.ensures.met;
  names = c.requires.names;
}

pub returns-in-Done-clause-memory : goal.returns-in-Done-clause-memory
returns-in-Done-clause-memory g c = told_by_the_book c.args.told c.requires.told
