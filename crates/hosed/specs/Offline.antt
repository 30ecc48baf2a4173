-- What the program's words come to, for every command that waits for nobody.
use Rattle.std.specs.Prelude.{◌≡◌, ◌↔◌, ℕ, List, Option, ⊤}
use Rattle.hose_graph.specs.Network.{Network}
use Rattle.hose_words.specs.Shapes.{IsFirstWrong}
use Rattle.hose_offline.specs.AuditOutcome.{AuditOutcome}
use Rattle.hose_outside.specs.Reading.{priced_names}
use Rattle.hose_offline.specs.CheckOutcome.{CheckOutcome}
use Rattle.hose_copying.specs.CutOutcome.{CutOutcome, cut_names}
use Rattle.hose_outside.specs.Ending.{IsOut}
use Rattle.hose_outside.specs.Fault.{last_line}
use Rattle.hose_copying.specs.FollowOutcome.{FollowOutcome}
use Rattle.hose_offline.specs.GenOutcome.{GenOutcome}
use Rattle.hose_copying.specs.MoveOutcome.{MoveOutcome}
use Rattle.hose_copying.specs.Moving.{move_names, scope_of}
use Rattle.hose_outside.specs.Parts.{Parts, Tellings}
use Rattle.hose_offline.specs.PriceOutcome.{PriceOutcome, Pricing, pricing_of}
use Rattle.hose_offline.specs.ProveOutcome.{ProveOutcome, ends_from}
use Rattle.hose_offline.specs.RunOutcome.{RunOutcome}
use Rattle.hose_copying.specs.ShipOutcome.{ShipOutcome}
use Rattle.hose_outside.specs.declared.fault.Fault.TheVariants.{Words}
use Rattle.hosed_requests.specs.ProgramWords.{AreWords, AreWrongWords, Task, costs_at, first_end, words_shape}
use Rattle.hosed_requests.specs.declared.verb.ProgramVerb.{ProgramVerb}
use Rattle.hosed_requests.specs.declared.verb.ProgramVerb.TheVariants as command

-- ---- the program's tariffs

-- what a tariff that is chosen, or none, makes of a network, and how hoses are priced under all of
-- them
pub record Offer : Type 1 where
  pub prices : Option ℕ → Network → Network → Type 0
  pub pricing : Pricing

module _ {T : Type 0} (prices : T → Network → Network → Type 0) (name : T → List ℕ)
    (base per : T → ℕ) (tariffs : List T) where
  -- that of tariffs with such prices, names and bounds
  abbrev pub offer_of : Offer
  offer_of = record {
    prices = costs_at prices tariffs;
    pricing = pricing_of prices name base per tariffs;
  }

-- ---- what comes of a command

module _ {I O C E : Type 0} (tells : Tellings I O C E) (offer : Offer)
    (before after : Parts I O C) (status : ℕ) where
  -- The command did what its task says, at the prices of the tariff that is chosen; sheets of
  -- prices are made of a network under all tariffs. Nothing is taken of the input but by a run, a
  -- check, a following and a sheet of prices. A server is none of these commands.
  abbrev pub Does : (verb : ProgramVerb) → Task offer.pricing.names verb → Type 0
  Does command.Run (tariff, journal) =
      RunOutcome tells (offer.prices tariff) journal before after status
  Does command.Audit (tariff, (topology, (journal, _))) =
      AuditOutcome tells (priced_names (offer.prices tariff) topology journal) before after status
  Does command.Generate (seed, (nodes, (links, (hoses, _)))) = GenOutcome tells
      (record { seed = seed; nodes = nodes; links = links; hoses = hoses }) before after status
  Does command.Prove (tariff, (topology, ends)) = ProveOutcome tells (offer.prices tariff) topology
      (ends_from ends (first_end tariff)) before after status
  Does command.Check (tariff, (topology, _)) =
      CheckOutcome tells (offer.prices tariff) topology before after status
  Does command.Price (topology, _) =
      PriceOutcome tells offer.pricing topology before after status
  Does command.Ship (tariff, (topology, (journal, (from, _)))) = ShipOutcome tells
      (priced_names (offer.prices tariff) topology journal) from before after status
  Does command.Follow (tariff, (topology, (journal, _))) =
      FollowOutcome tells (priced_names (offer.prices tariff) topology journal) before after status
  Does command.Move (tariff, (live, (topology, (journal, (new_topology, (new_journal, _)))))) =
      MoveOutcome tells
      (move_names (offer.prices tariff) (scope_of live) topology journal new_topology new_journal)
      before after status
  Does command.Cut (tariff, (topology, (journal, (count, (new_journal, _))))) = CutOutcome tells
      (cut_names (priced_names (offer.prices tariff) topology journal) count new_journal)
      before after status
  Does command.Serve task = ⊤

  -- Words that are wrong end with the status 1 and take nothing of the input and of the cabinet;
  -- the last line tells the first of them that is not allowed. Other words do what their command
  -- says. Of the other commands `prove` alone can end with the status 1, and says itself where.
  pub record OfflineOutcome (words : List (List ℕ)) : Type 0 where
    pub words_at_1 : ((task : Task offer.pricing.names command.Prove)
        → ¬ AreWords offer.pricing.names words command.Prove task)
        → (status ≡ 1) ↔ AreWrongWords offer.pricing.names words
    pub wrong_words : AreWrongWords offer.pricing.names words → (after.input ≡ before.input)
        × (after.cabinet ≡ before.cabinet)
        × ((word : ℕ) × IsFirstWrong (words_shape offer.pricing.names) words word
        × IsOut tells.sink before.output after.output (last_line (Words word)))
    pub does : (verb : ProgramVerb) (task : Task offer.pricing.names verb)
        → AreWords offer.pricing.names words verb task → Does verb task
