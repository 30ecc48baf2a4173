-- A command that leaves what its customer holds leaves the customer's quotes; and after each one the next can be answered.
use Rattle.std.proofs.Common.{◌≡◌, ◌∙◌, ◌<◌, ◌≤◌, ℕ, List, Option, ap, length, take, subst, sym}
use Rattle.hose_graph.specs.Network.{Network}
use Rattle.hose_graph.specs.steps.Naming.{NamesPlaces}
use Rattle.hose_graph.specs.declared.command.Command.{Command}
use Rattle.hose_graph.specs.declared.command.Command.TheVariants.{Take}
use Rattle.hose_graph.specs.declared.command.Reply.{Reply}
use Rattle.hose_graph.specs.declared.command.Reply.TheVariants.{Stale}
use Rattle.hose_law.specs.steps.Answer.{ChangesHeld}
use Rattle.hose_law.specs.Quotes.{Holding}
use Rattle.hose_law.proofs.Steps.{step_keeps}
use Rattle.hose_core.specs.steps.Holding.{AreHeld}
use Rattle.hose_core.specs.declared.quotes.Quote.{Quote}
use Rattle.hose_core.proofs.HeldQuotes.{held_on}
use Rattle.hose_turn.specs.Known.{Known}
use Rattle.hose_turn.specs.declared.view.Origin.{Origin}
use Rattle.hose_shared.specs.steps.Along.{AnswersAlong, StepsAlong, StepsHolding}
use Rattle.hose_shared.specs.steps.Providing.{CanProvide, Customer, Provides}
use Rattle.hose_shared.specs.steps.Sharing.{SharedBook}

-- the quotes are those that are held at a longer history too
pub keeps_holding : (network : Network) (customer : List ℕ) (held : Holding) (command : Command) (answer : Reply) (old new : Known) (quotes : List (Option Quote)) → ¬ ChangesHeld command → StepsAlong network customer held command answer old new
    → AreHeld network 0 old.seen held quotes → StepsHolding network customer held command answer old new quotes
keeps_holding network customer held command answer old new quotes others along are = record {
  along = along;
  holds = subst (λ (h : Holding). AreHeld network 0 new.seen h quotes)
      (sym (step_keeps network 0 (take along.place new.seen) customer held command answer along.step.step.0 along.step.next along.left others along.step.step.1)) (held_on along.same.seen are);
}

-- a command that leaves what is held was answered along a pass, and the quotes are as before
pub provides_keeping : {network : Network} {customer : List ℕ} {answer : Reply} {old new : Known} (command : Command) (quotes : List (Option Quote)) → ¬ ChangesHeld command → AnswersAlong network customer command answer old new
    → Provides network (record { pass = old; quotes = quotes }) (record { pass = new; quotes = quotes }) customer command answer
provides_keeping {network} {customer} {answer} {old} {new} command quotes others answered = record {
  steps = λ held are. keeps_holding network customer held command answer old new quotes others (answered.steps held) are;
  names = answered.names;
  stale = λ number seen now asked stale. absurd (others (subst ChangesHeld (sym asked) tt));
}

-- one that changes it was answered so
pub provides_changing : {network : Network} {customer : List ℕ} {answer : Reply} {old new : Known} (command : Command) (quotes left : List (Option Quote)) → ((held : Holding) → AreHeld network 0 old.seen held quotes → StepsHolding network customer held command answer old new left) → NamesPlaces network answer
    → ((number seen now : ℕ) → command ≡ Take number → answer ≡ Stale seen now → (seen < now) × (now ≤ length new.seen))
    → Provides network (record { pass = old; quotes = quotes }) (record { pass = new; quotes = left }) customer command answer
provides_changing command quotes left steps names stale = record { steps = steps; names = names; stale = stale }

-- the next command can be answered
pub can_again : (shared : SharedBook) (old new : Customer) (customer : List ℕ) (command : Command) (answer : Reply) → CanProvide shared old.quotes old.pass → Provides shared.network old new customer command answer → CanProvide shared new.quotes new.pass
can_again shared old new customer command answer can provides =
    let of = can.0 in
    let steps = provides.steps can.1 can.2 in
    let same = steps.along.same in (
      record { turn = same.turn ∙ of.turn; network = ap (λ (o : Origin). o.network) same.origin ∙ of.network; places = same.places },
      steps.along.left,
      steps.holds,
    )
