-- A shared book, as it answers one customer along a pass.
use Rattle.std.specs.Prelude.{◌≡◌, ◌<◌, ◌≤◌, ℕ, List, Option, length}
use Rattle.hose_graph.specs.steps.Naming.{NamesPlaces}
use Rattle.hose_graph.specs.Network.{Network}
use Rattle.hose_graph.specs.declared.command.Command.{Command}
use Rattle.hose_graph.specs.declared.command.Command.TheVariants.{Take}
use Rattle.hose_graph.specs.declared.command.Reply.{Reply}
use Rattle.hose_graph.specs.declared.command.Reply.TheVariants.{Stale}
use Rattle.hose_law.specs.Quotes.{Holding}
use Rattle.hose_core.specs.steps.Holding.{AreHeld}
use Rattle.hose_core.specs.declared.quotes.Quote.{Quote}
use Rattle.hose_turn.specs.Known.{Known}
use Rattle.hose_shared.specs.steps.Along.{StepsHolding}
use Rattle.hose_shared.specs.steps.Sharing.{IsPassOf, SharedBook}

-- a customer at a shared book: the pass along which it is answered, and the quotes that it holds
pub record Customer : Type 0 where
  pub pass : Known
  pub quotes : List (Option Quote)

-- the pass is one of the shared book, and the quotes were made along it
abbrev pub CanProvide : SharedBook → List (Option Quote) → Known → Type 0
CanProvide shared quotes pass =
    IsPassOf shared pass × (held : Holding) × AreHeld shared.network 0 pass.seen held quotes

-- A command was answered by a step along the history, whatever the customer held whose quotes these
-- were, with a reply that names what is there. Of a stale quote both numbers are of this history,
-- and other entries came after it.
pub record Provides (network : Network) (old new : Customer) (customer : List ℕ)
    (command : Command) (reply : Reply) : Type 0 where
  pub steps : (held : Holding) → AreHeld network 0 old.pass.seen held old.quotes
      → StepsHolding network customer held command reply old.pass new.pass new.quotes
  pub names : NamesPlaces network reply
  pub stale : (number seen now : ℕ) → command ≡ Take number → reply ≡ Stale seen now
      → (seen < now) × (now ≤ length new.pass.seen)
