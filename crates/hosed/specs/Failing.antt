-- Which of the files that words name is told as the one at which the cabinet failed.
use Rattle.std.specs.Prelude.{List, ℕ, ⊤}
use Rattle.hose_outside.specs.Reading.{priced_names}
use Rattle.hose_copying.specs.CutOutcome.{cut_names}
use Rattle.hose_copying.specs.Failing.{FailsCut, FailsMoved}
use Rattle.hose_outside.specs.Failing.{FailsNamed}
use Rattle.hose_copying.specs.Moving.{move_names, scope_of}
use Rattle.hose_outside.specs.Parts.{Parts, Tellings}
use Rattle.hose_outside.specs.declared.why.Why.{Why}
use Rattle.hosed.specs.Offline.{Offer}
use Rattle.hosed_requests.specs.ProgramWords.{AreWords, Task}
use Rattle.hosed_requests.specs.declared.verb.ProgramVerb.{ProgramVerb}
use Rattle.hosed_requests.specs.declared.verb.ProgramVerb.TheVariants as command

module _ {I O C E : Type 0} (tells : Tellings I O C E) (offer : Offer) (before after : Parts I O C)
    (why : Why) where
  -- what is told of the files of a command that names more than one
  abbrev pub FailsTask : (verb : ProgramVerb) → Task offer.pricing.names verb → Type 0
  FailsTask command.Run task = ⊤
  FailsTask command.Audit (tariff, (topology, (journal, _))) = FailsNamed tells
      (priced_names (offer.prices tariff) topology journal) before after why
  FailsTask command.Generate task = ⊤
  FailsTask command.Prove task = ⊤
  FailsTask command.Check task = ⊤
  FailsTask command.Price task = ⊤
  FailsTask command.Ship (tariff, (topology, (journal, (from, _)))) = FailsNamed tells
      (priced_names (offer.prices tariff) topology journal) before after why
  FailsTask command.Follow (tariff, (topology, (journal, _))) = FailsNamed tells
      (priced_names (offer.prices tariff) topology journal) before after why
  FailsTask command.Move (tariff, (live, (topology, (journal, (new_topology, (new_journal, _)))))) =
      FailsMoved tells
      (move_names (offer.prices tariff) (scope_of live) topology journal new_topology new_journal)
      before after why
  FailsTask command.Cut (tariff, (topology, (journal, (count, (new_journal, _))))) = FailsCut tells
      (cut_names (priced_names (offer.prices tariff) topology journal) count new_journal)
      before after why
  FailsTask command.Serve (tariff, (topology, (journal, (port, (connections, (workers, _)))))) =
      FailsNamed tells (priced_names (offer.prices tariff) topology journal) before after why

  -- So it is with the files that words name, where they are not wrong.
  pub record FailsWords (words : List (List ℕ)) : Type 0 where
    pub of : (verb : ProgramVerb) (task : Task offer.pricing.names verb)
        → AreWords offer.pricing.names words verb task → FailsTask verb task
