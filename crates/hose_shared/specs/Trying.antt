-- What a shared book was to enter, whether its disk took it or not, and who asked for it.
use Rattle.std.specs.Prelude.{◌≡◌, ◌⊎◌, ℕ, List, [], ◌∷◌, ◌++◌, length, Some, Contains}
use mathlib.Core.List.{IsPrefix}
use Rattle.hose_graph.specs.Network.{Network}
use Rattle.hose_graph.specs.declared.command.Command.{Command}
use Rattle.hose_graph.specs.declared.command.Reply.{Reply}
use Rattle.hose_graph.specs.declared.entry.Entry.{Entry}
use Rattle.hose_graph.specs.declared.entry.Entry.TheVariants.{Admit, Release, Down, Up}
use Rattle.hose_law.specs.Answer.{IsStepOf}
use Rattle.hose_law.specs.Book.{Book}
use Rattle.hose_law.specs.History.{IsDecidedAt, book_of}
use Rattle.hose_law.specs.Quotes.{Holding}
use Rattle.hose_turn.specs.declared.view.Tried.{Tried}

-- an entry without the plan of an admission
abbrev pub without_plan : Entry → Entry
without_plan (Admit customer hose amounts) = Admit customer hose []
without_plan (Release customer id) = Release customer id
without_plan (Down link) = Down link
without_plan (Up link) = Up link

-- The entries are one but for the plan of an admission, of which a book decides one alone.
abbrev pub IsAlike : Entry → Entry → Type 0
IsAlike one other = without_plan one ≡ without_plan other

-- the entry is the next one of a history after these, or one like it was tried there
abbrev pub IsNextOrTried : List Entry → List Tried → List Entry → Entry → Type 0
IsNextOrTried history tries before entry = IsPrefix (before ++ entry ∷ []) history
    ⊎ ((one : Tried) × Contains tries one × (one.place ≡ length before) × IsAlike one.entry entry)

-- The entry is decided at the book, which is that of a beginning of a history, and is the next one
-- of that history or was tried there.
pub record IsTried (history : List Entry) (tries : List Tried) (network : Network) (book : Book)
    (entry : Entry) : Type 0 where
  pub decided : IsDecidedAt network book entry
  pub before : List Entry
  pub begins : IsPrefix before history
  pub is_book : book_of 0 before ≡ book
  pub is_tried : IsNextOrTried history tries before entry

-- What was tried after these entries is the entry of a step there by which this answered a
-- command.
pub record IsTriedBy (network : Network) (before : List Entry) (customer : List ℕ)
    (held : Holding) (command : Command) (answer : Reply) (one : Tried) : Type 0 where
  pub place : one.place ≡ length before
  pub entry : Entry
  pub alike : IsAlike one.entry entry
  pub next : List Entry
  pub left : Holding
  pub step : IsStepOf network 0 before customer held command answer (Some entry) next left
