-- Where no quote is held, nothing stands for it.
use Rattle.std.proofs.Common.{◌≡◌, List, Option, subst, sym}
use Rattle.hose_graph.specs.Network.{Network}
use Rattle.hose_graph.specs.declared.entry.Entry.{Entry}
use Rattle.hose_law.specs.Quotes.{none_held}
use Rattle.hose_core.specs.steps.Holding.{AreHeld}
use Rattle.hose_core.proofs.HeldQuotes.{none_are_held}
use Rattle.hose_core.specs.declared.quotes.Quote.{Quote}
use Rattle.tests_threads.proofs.shared.quote.Goals as goal

held_by : (network : Network) (history : List Entry) (quotes : List (Option Quote)) → AreHeld network 0 history none_held none_held → quotes ≡ none_held → AreHeld network 0 history none_held quotes
held_by network history quotes first none = subst (AreHeld network 0 history none_held) (sym none) first

pub quote-reply-requires-clause-quotes : goal.quote-reply-requires-clause-quotes
quote-reply-requires-clause-quotes g c = (none_held, held_by c.args.scene.now.book.now.network c.args.pass.seen c.new-quotes.result (none_are_held c.args.scene.now.book.now.network 0 c.args.pass.seen) c.new-quotes.ensures)
