use Rattle.std.proofs.Common.{sym, subst}
use Rattle.hose_graph.specs.declared.entry.Entry.{Entry}
use Rattle.hose_book.proofs.Judging.{judged_refused, judged_sound}
use Rattle.hose_book.specs.steps.Refusal.{Judges}
use Rattle.hose_book.proofs.Book.check.Goals as goal

pub returns-in-Admit-clause-ok : goal.returns-in-Admit-clause-ok
returns-in-Admit-clause-ok c =
    let ledger = c.args.self.now in
    judged_sound ledger.network ledger.book c.args.entry.now c.check_admission.result
    (subst (λ (entry : Entry). Judges ledger.network ledger.book entry c.check_admission.result) (sym c.in-Admit.is) (c.check_admission.ensures c.in-Admit.customer))

pub returns-in-Admit-clause-refused : goal.returns-in-Admit-clause-refused
returns-in-Admit-clause-refused c =
    let ledger = c.args.self.now in
    judged_refused ledger.network ledger.book c.args.entry.now c.check_admission.result
    (subst (λ (entry : Entry). Judges ledger.network ledger.book entry c.check_admission.result) (sym c.in-Admit.is) (c.check_admission.ensures c.in-Admit.customer))
