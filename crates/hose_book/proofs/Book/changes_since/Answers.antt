use Rattle.std.proofs.Common.{◌-◌, ◌∙◌, ap, ℕ, List, Contains, drop, length, length-drop, arith, subst, sym}
use Rattle.std.proofs.lemmas.List.{take_all}
use Rattle.hose_book.specs.Ledger.{Ledger}
use Rattle.hose_book.proofs.Tracking.{contains_since}
use Rattle.hose_book.proofs.Book.changes_since.Goals as goal

pub returns-clause-all : goal.returns-clause-all
returns-clause-all c = λ epoch link above there.
    let changes = c.as_slice-changes.result.now in
    let from = c.first_since.result in
    let rest = drop from changes in
    let whole = take_all (length changes - from) rest (omega (arith, length-drop from changes)) in
    subst (λ (c : List (ℕ × ℕ)). Contains c (epoch, link)) (sym whole)
    (contains_since changes c.args.seen from epoch link c.first_since.ensures.inside c.first_since.ensures.before above
    (subst (λ (kept : List (ℕ × ℕ)). Contains kept (epoch, link)) (sym (c.as_slice-changes.ensures.value ∙ ap (λ (l : Ledger). l.recent.changes) c.self.view_is)) there))
