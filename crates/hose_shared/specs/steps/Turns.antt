-- One turn of a pass over a shared store.
use Rattle.std.specs.Prelude.{◌≡◌, ◌⊎◌, ℕ, ◌<◌, List, [], ◌∷◌, ◌++◌, length, Option, None, Some, IfSome, MatchOption, All}
use mathlib.Core.List.{IsPrefix}
use Rattle.hose_graph.specs.Network.{Network}
use Rattle.hose_graph.specs.declared.command.Command.{Command}
use Rattle.hose_graph.specs.declared.entry.Entry.{Entry}
use Rattle.hose_graph.specs.declared.command.Reply.{Reply}
use Rattle.hose_law.specs.Answer.{IsStepOf, with_entry}
use Rattle.hose_law.specs.History.{IsDecidedAt, book_of}
use Rattle.hose_law.specs.Quotes.{Holding}
use Rattle.hose_book.specs.steps.Commit.{IsMet}
use Rattle.hose_book.specs.declared.books.Committed.{Committed}
use Rattle.hose_book.specs.declared.books.Committed.TheVariants.{Done, Disk}
use Rattle.hose_core.specs.steps.Stepping.{HasStepped, committed_of}
use Rattle.hose_disk.specs.Disk.{object_frame}
use Rattle.hose_disk.specs.declared.disk.Disk.{Ghosts}
use Rattle.hose_store.specs.steps.Commit.{store_books}
use Rattle.hose_store.specs.steps.Store.{KeptStore}
use Rattle.hose_turn.specs.declared.view.Tried.{Tried}
use Rattle.hose_turn.specs.Known.{Known}
use Rattle.hose_turn.specs.steps.Known.{with_own_entry}
use Rattle.hose_shared.specs.Trying.{IsAlike, IsTriedBy}
use Rattle.hose_shared.specs.steps.Along.{IsCheapestEntry}
use Rattle.hose_shared.specs.steps.Keeping.{StandsShared}
use Rattle.hose_shared.specs.steps.Sharing.{HasSeenMore, IsSamePass}

-- how many faults the store's disk has met
abbrev pub faults_in : {D : Type 0} → Ghosts D → KeptStore D → ℕ
faults_in disk store = (disk.frame store.journal.disk).faults

-- the entry that joined the history, by what its commit came to
abbrev pub joined_of : Option Entry → Committed → Option Entry
joined_of entry Done = entry
joined_of entry Disk = None

-- what a pass knows once an entry joined the history, if one did
abbrev pub with_joined : Known → Option Entry → Known
with_joined known None = known
with_joined known (Some entry) = with_own_entry known entry

-- the place of an entry that joined the history, if one did
abbrev pub place_of : List Entry → Option Entry → List ℕ
place_of before None = []
place_of before (Some entry) = length before ∷ []

-- A command was answered by a step after just these entries of the history. The entry that joined
-- the history there, if one did, is the pass's own, and so is what was tried.
pub record StepsAt (network : Network) (customer : List ℕ) (held : Holding) (command : Command)
    (answer : Reply) (before : List Entry) (old new : Known) : Type 0 where
  pub entry : Option Entry
  pub joined : Option Entry
  pub after : Holding
  pub step : IsStepOf network 0 before customer held command answer entry
      (with_entry before joined) after
  pub decided : IfSome joined (IsDecidedAt network (book_of 0 before))
  pub cheapest : IfSome joined (IsCheapestEntry network (book_of 0 before))
  pub same : IsSamePass old new
  pub seen : IsPrefix (with_entry before joined) new.seen
  pub own : new.own ≡ old.own ++ place_of before joined
  pub tries : List Tried
  pub tried : new.tried ≡ old.tried ++ tries
  pub asked : All (IsTriedBy network before customer held command answer) tries
  pub failed : committed_of answer ≡ Disk → old.faults < new.faults

-- A command was answered in a turn of a pass, which had seen maybe more by then: by a step after
-- all of that.
pub record StepsInTurn (network : Network) (customer : List ℕ) (held : Holding) (command : Command)
    (answer : Reply) (old new : Known) : Type 0 where
  pub known : Known
  pub more : HasSeenMore old known
  pub at : StepsAt network customer held command answer known.seen known new

-- ---- its beginning and its end

-- A turn begins: the store stands for all that the pass has seen, whose length is this epoch, and
-- its disk has met as many faults as are counted from.
pub record BeginsTurn {D : Type 0} (disk : Ghosts D) (Begins : List Entry → KeptStore D → Type 0)
    (known : Known) (tries : List Tried) (count at : ℕ) (store : KeptStore D) : Type 0 where
  pub stands : StandsShared disk Begins known.origin known.seen tries store
  pub epoch : at ≡ length known.seen
  pub floor : count ≡ faults_in disk store

-- A command was answered in a turn by a step of the store. The entry that joined the history there,
-- if one did, is the one that is told; or the store is as it was. What was tried there is like the
-- one that is told, and without one the store is as it was.
pub record AnswersTurn {D : Type 0} (disk : Ghosts D) (before : List Entry) (old new : KeptStore D)
    (told : Option Entry) (customer : List ℕ) (held : Holding) (command : Command) (answer : Reply)
    : Type 0 where
  pub stepped : HasStepped (store_books disk) old new 0 before customer held command answer
  pub network : new.ledger.network ≡ old.ledger.network
  pub met : IsMet (object_frame (disk.frame old.journal.disk)) (committed_of answer)
      (object_frame (disk.frame new.journal.disk))
  pub joined : (new ≡ old)
      ⊎ IfSome (joined_of stepped.entry (committed_of answer)) (λ one. told ≡ Some one)
  pub tried : MatchOption told (new ≡ old) (λ one. IfSome stepped.entry (IsAlike one))
