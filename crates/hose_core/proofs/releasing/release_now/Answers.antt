use Rattle.std.proofs.Common.{ℕ, List, subst, sym}
use Rattle.hose_graph.specs.declared.command.Command.TheVariants.{Release}
use Rattle.hose_graph.specs.declared.entry.Entry.TheVariants as entry
use Rattle.hose_core.specs.steps.Stepping.{StepsAtEach}
use Rattle.hose_core.proofs.ReleasedEntries.{as_released}
use Rattle.hose_core.proofs.releasing.release_now.Goals as goal

pub enter_release-requires-clause-ready : goal.enter_release-requires-clause-ready
enter_release-requires-clause-ready g c =
    let claim = c.requires.claim.2 in
    subst (g.K.Books.fits c.args.claim.ready) (sym c.entry-entry.ensures)
    (as_released (λ (name : List ℕ) (number : ℕ). g.K.Books.fits c.args.claim.ready (entry.Release name number)) c.args.claim.customer c.requires.claim.0 c.args.claim.id c.requires.claim.1 (sym claim.named) (sym claim.numbered) claim.ready)

pub returns-clause-step : goal.returns-clause-step
returns-clause-step g c = λ customer id claim.
    as_released (λ (name : List ℕ) (number : ℕ). StepsAtEach g.K.Books c.args.books.now c.enter_release.new.books name (Release number) c.enter_release.result) customer c.args.claim.customer id c.args.claim.id claim.named claim.numbered
    c.enter_release.ensures.step
