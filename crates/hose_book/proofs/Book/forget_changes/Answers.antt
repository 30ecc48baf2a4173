use Rattle.std.proofs.Common.{◌∙◌, sym, ap, subst}
use Rattle.hose_law.specs.steps.Tracks.{Tracks}
use Rattle.hose_book.specs.steps.Changes.{opening_recent}
use Rattle.hose_book.specs.Ledger.{Ledger}
use Rattle.hose_book.proofs.Tracking.{tracks_none}
use Rattle.hose_book.proofs.Book.forget_changes.Goals as goal

pub returns-clause-tracks : goal.returns-clause-tracks
returns-clause-tracks c = λ epoch history same.
    subst (Tracks epoch history) (sym (c.restart.ensures ∙ ap (λ (s : Ledger). opening_recent s.book.epoch) c.self.view_is))
    (tracks_none epoch history c.args.self.now same)
