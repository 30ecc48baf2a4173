-- What comes of a generated script: steps of proofs.
use Rattle.std.specs.Prelude.{◌≡◌, ℕ, ◌+◌, ◌≤◌, List, []}
use Rattle.hose_graph.specs.declared.entry.Entry.{Entry}
use Rattle.hose_graph.specs.declared.command.Reply.{Reply}
use Rattle.hose_graph.specs.Network.{Network}
use Rattle.hose_graph.specs.Limits.{most_links, most_nodes}
use Rattle.hose_law.specs.History.{book_of}
use Rattle.hose_law.specs.Script.{WithoutMemory}
use Rattle.hose_book.specs.declared.books.Books.{Ghosts as BooksGhosts}
use Rattle.hose_core.specs.steps.Holding.{State}
use Rattle.hose_core.specs.steps.Stepping.{FitsHistory}
use Rattle.hose_gen.specs.Generated.{Order}
use Rattle.hose_gen.specs.Limits.{least_nodes, most_hoses}
use Rattle.hose_offline.specs.steps.Talking.{AreAnswered}
use Rattle.hose_offline.specs.Tally.{tally_of}
use Rattle.hose_offline.specs.declared.tally.Tally.{Tally}
use Rattle.hose_offline.specs.Generating.{asked, IsScriptOf}

-- a network of so many nodes and links, and a script of so many hoses, can be generated
pub record AreSizes (nodes links hoses : ℕ) : Type 0 where
  pub enough_nodes : least_nodes ≤ nodes
  pub few_nodes : nodes ≤ most_nodes
  pub enough_links : nodes ≤ links + 1
  pub few_links : links ≤ most_links
  pub few_hoses : hoses ≤ most_hoses

module _ {K R : Type 0} (books : BooksGhosts K R) (first last : State K) where
  -- Orders were answered one after another from the empty history on, where no customer held a
  -- quote, none of them for want of memory, and this is the tally of the replies; the epoch is not
  -- told yet.
  pub record HaveBeenAnswered (orders : List Order) (tally : Tally) : Type 0 where
    pub replies : List Reply
    pub answered : AreAnswered books (books.ledger first.books).network [] first.books last.books
        (asked orders) replies
    pub fits : FitsHistory books last 0 answered.history answered.left
    pub network : (books.ledger last.books).network ≡ (books.ledger first.books).network
    pub memory : WithoutMemory replies
    pub is_tally : tally ≡ tally_of replies 0

-- this is the tally of the replies to orders on a network
pub record IsTallyOf (network : Network) (orders : List Order) (tally : Tally) : Type 0 where
  pub replies : List Reply
  pub history : List Entry
  pub script : IsScriptOf network orders replies history
  pub is_tally : tally ≡ tally_of replies (book_of 0 history).epoch
